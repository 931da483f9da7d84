use Rattle.state.proofs.Loads.{by-ring, side_by_side}
use Rattle.isa.specs.State.{x_base, y_base}
use Rattle.std.proofs.Common.{cond}
use Rattle.state.proofs.load.Goals as goal

pub returns-then-state-lt1024 : goal.returns-then-state-lt1024
returns-then-state-lt1024 c =
    let a = c.args in
    by-ring a.state.now c.ring.result (cond a.y y_base x_base) c.base_of-base.result a.offset c.base_of-base.ensures.0 c.ring.ensures

pub returns-then-from-gt448 : goal.returns-then-from-gt448
returns-then-from-gt448 c =
    let a = c.args in
    by-ring a.state.now c.ring-then-from-gt448.result (cond a.y y_base x_base) c.base_of-base.result a.offset c.base_of-base.ensures.0
    c.ring-then-from-gt448.ensures

pub returns : goal.returns
returns c =
    let a = c.args in
    side_by_side a.state.now c.straight.result (cond a.y y_base x_base) c.base_of-base.result a.offset c.base_of-base.ensures.0 c.if-from-gt448.false
    c.straight.ensures
