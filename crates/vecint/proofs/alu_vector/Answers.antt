use Rattle.std.proofs.Common.{ℕ, eqb, length, ap, ◌∙◌}
use Rattle.isa.proofs.Applied.{length-applied}
use Rattle.operand.proofs.Rows.{first-row-of}
use Rattle.vecint.proofs.VectorMeant.{few-vectors, rows_fit, vector-meant}
use Rattle.vecint.proofs.alu_vector.Goals as goal

pub vector_terms-terms-requires : goal.vector_terms-terms-requires
vector_terms-terms-requires c = (few-vectors c.args.generation c.args.op c.args.v c.requires.1, c.requires.2)

pub alu_rows-requires : goal.alu_rows-requires
alu_rows-requires c =
    let a = c.args in (
      c.requires.0,
      (rows_fit a.generation a.op a.v a.state.now c.requires.0 (λ p. (c.slice_known-1.given p).fits) c.requires.2 c.first_row.result
          c.rows_each.result _ c.requires.1 c.first_row.ensures c.rows_each.ensures.0 (ap (λ (b : ℕ). eqb b 4) c.z_width-wide.ensures.0)).0,
      (rows_fit a.generation a.op a.v a.state.now c.requires.0 (λ p. (c.slice_known-1.given p).fits) c.requires.2 c.first_row.result c.rows_each.result
          _ c.requires.1 c.first_row.ensures c.rows_each.ensures.0 (ap (λ (b : ℕ). eqb b 4) c.z_width-wide.ensures.0)).1,
    )

pub shape_of-state : goal.shape_of-state
shape_of-state c = ap length c.alu_rows.ensures ∙ length-applied _ _

pub returns : goal.returns
returns c =
    let a = c.args in
    vector-meant a.generation a.op a.v a.state.now c.requires.0 (λ p. (c.slice_known-1.given p).fits) c.requires.2 c.alu_rows.new.state _
    c.first_row.result c.rows_each.result a.on.now c.alu_by-how.result c.vector_terms-terms.result (ap (λ (b : ℕ). eqb b 4) c.z_width-wide.ensures.0)
    (c.first_row.ensures ∙ first-row-of a.generation a.op a.v c.requires.1) c.rows_each.ensures.0 c.requires.3 c.alu_by-how.ensures
    c.vector_terms-terms.ensures c.alu_rows.ensures
