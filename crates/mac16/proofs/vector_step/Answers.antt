use native.Mathlib.Omega.{arith}
use Rattle.isa.specs.Mac16 as Mac16
use Rattle.masks.proofs.Bools.{lanes-of_rule}
use Rattle.mac16.proofs.Whole.{vector-is, vector-count}
use Rattle.mac16.proofs.vector_step.Goals as goal

pub returns : goal.returns
returns c =
    let a = c.args in
    let enabled = lanes-of_rule (Mac16.x_enabled a.op) 64 32 c.x_mask-x.result _ (omega arith) c.x_mask-x.ensures c.lanes-on.ensures in (
      vector-is a.op a.state.now c.row16.new.state c.lanes-on.result c.x_factors.result c.y_factors-ys.result
          c.sum_of.result.shift c.sum_of.result.keep enabled c.x_factors.ensures c.y_factors-ys.ensures
          c.sum_of.ensures.0 c.sum_of.ensures.1 c.sum_of.ensures.2 c.z_row.result c.told-state
          c.fits-state c.z_row.ensures.0 c.row16.ensures,
      vector-count a.op c.x_mask-x.result c.count_first.result c.x_mask-x.ensures c.count_first.ensures.0,
    )
