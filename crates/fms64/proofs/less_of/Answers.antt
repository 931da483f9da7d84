use Rattle.isa.specs.Fms64.{x_enabled}
use Rattle.masks.proofs.Bools.{lanes-of_rule}
use native.Mathlib.Omega.{arith}
use Rattle.fms64.proofs.less_of.Goals as goal

pub returns : goal.returns
returns c =
    let a = c.args in
    let on = lanes-of_rule (x_enabled a.op) 64 8 a.x c.lanes.result (omega arith) c.requires c.lanes.ensures in
    (c.terms.ensures, c.flag.ensures, on, c.flag-2.ensures)
