use mathlib.Core.Path.{ap}
use native.Mathlib.Omega.{arith}
use Rattle.isa.specs.Mac16 as Mac16
use Rattle.masks.proofs.Bools.{lanes-of_rule}
use Rattle.mac16.specs.Products.{masked}
use Rattle.mac16.proofs.Counts.{count-matrix32}
use Rattle.mac16.proofs.Whole.{matrix32-is, matrix-count}
use Rattle.mac16.proofs.matrix32_step.Goals as goal

pub returns : goal.returns
returns c =
    let a = c.args in
    let enabled = lanes-of_rule (Mac16.x_enabled a.op) 64 32 c.x_mask-x.result _ (omega arith) c.x_mask-x.ensures c.lanes.ensures in
    let enabled-y = lanes-of_rule (Mac16.y_enabled a.op) 64 32 c.y_mask-y.result _ (omega arith) c.y_mask-y.ensures c.lanes-2.ensures in (
      matrix32-is a.op a.state.now c.matrix32.new.state c.lanes.result (masked c.lanes.result c.x_side.result)
          c.y_factors.result c.sum_of.result.shift c.sum_of.result.keep enabled (ap (masked c.lanes.result) c.x_side.ensures)
          c.y_factors.ensures c.sum_of.ensures.0 c.sum_of.ensures.1 c.sum_of.ensures.2
          c.lanes-2.result enabled-y c.matrix32.ensures,
      matrix-count a.op c.x_mask-x.result c.matrix_bytes.result c.x_mask-x.ensures
          c.y_mask-y.result c.y_mask-y.ensures Mac16.matrix32 (count-matrix32 a.op) c.matrix_bytes.ensures,
    )
