use Rattle.vecint.proofs.SideLanes.{terms_held}
use Rattle.vecint.proofs.vector_terms.Goals as goal

pub returns : goal.returns
returns c =
    let a = c.args in
    terms_held a.generation a.op a.state.now a.v a.how c.kept_terms.result
    c.x_bytes-xs.result c.y_bytes-ys.result c.x_side.result c.y_side.result
    c.vector_lanes.result c.vecint_shift.result c.requires.1 c.requires.0
    c.x_bytes-xs.ensures c.y_bytes-ys.ensures c.x_side.ensures c.y_side.ensures
    c.vector_lanes.ensures.0 c.vector_lanes.ensures.1
    c.vecint_shift.ensures.0 c.vecint_shift.ensures.1 c.kept_terms.ensures
