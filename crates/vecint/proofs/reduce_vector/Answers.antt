use Rattle.std.proofs.Common.{◌∙◌}
use Rattle.operand.proofs.Rows.{first-row-of}
use Rattle.vecint.proofs.ReduceMeant.{reduce-meant}
use Rattle.vecint.proofs.reduce_vector.Goals as goal

pub returns : goal.returns
returns c =
    let a = c.args in
    reduce-meant a.generation a.op a.v a.state.now c.requires.0 (λ p. (c.slice_known-1.given p).fits) c.requires.2 c.reduce_row.new.state
    c.first_row.result c.z_width.result a.on.now c.reduce_by-how.result (c.first_row.ensures ∙ first-row-of a.generation a.op a.v c.requires.1)
    c.z_width.ensures.0 c.requires.3 c.reduce_by-how.ensures c.reduce_row.ensures
