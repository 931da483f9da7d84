use mathlib.Core.Path.{refl}
use Prim.Native.Nat.{◌%◌}
use native.Mathlib.Omega.{arith}
use Rattle.isa.specs.Mac16 as Mac16
use Rattle.masks.proofs.Bools.{lanes-of_rule}
use Rattle.mac16.proofs.Counts.{count-matrix16}
use Rattle.mac16.proofs.Whole.{matrix16-is, matrix-count}
use Rattle.mac16.proofs.matrix16_step.Goals as goal

pub returns : goal.returns
returns c =
    let a = c.args in
    let enabled = lanes-of_rule (Mac16.x_enabled a.op) 64 32 c.x_mask-x.result _ (omega arith) c.x_mask-x.ensures c.lanes-on.ensures in
    let enabled-y = lanes-of_rule (Mac16.y_enabled a.op) 64 32 c.y_mask-y.result _ (omega arith) c.y_mask-y.ensures c.lanes.ensures in (
      matrix16-is a.op a.state.now c.matrix16.new.state c.lanes-on.result c.x_factors.result c.y_factors.result
          c.sum_of.result.shift c.sum_of.result.keep enabled c.x_factors.ensures c.y_factors.ensures
          c.sum_of.ensures.0 c.sum_of.ensures.1 c.sum_of.ensures.2 c.lanes.result enabled-y
          (c.z_row.result % 2) c.z_row.result c.z_row.ensures.0 refl c.matrix16.ensures,
      matrix-count a.op c.x_mask-x.result c.matrix_bytes.result c.x_mask-x.ensures
          c.y_mask-y.result c.y_mask-y.ensures Mac16.matrix16 (count-matrix16 a.op) c.matrix_bytes.ensures,
    )
