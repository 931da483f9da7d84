use Rattle.fms64.proofs.Whole.{vector-count}
use Rattle.fms64.proofs.vector_step.Goals as goal

pub returns : goal.returns
returns c =
    let a = c.args in (
      c.vector_rows.ensures,
      vector-count a.op c.x_mask-x.result c.count_first.result c.x_mask-x.ensures c.count_first.ensures.0 c.requires,
    )
