use Rattle.std.proofs.Common.{cond, sym, ◌∙◌}
use Rattle.number.specs.Bytes.{table}
use Rattle.isa.specs.State.{x_base, y_base}
use Rattle.masks.proofs.Bools.{same-all}
use Rattle.vecfp.specs.Vectors.{byte_from}
use Rattle.vecfp.proofs.side_bytes.Goals as goal

pub returns-in-None : goal.returns-in-None
returns-in-None c =
    let a = c.args in
    same-all 64 0 ∙ (λ i. table (λ k. byte_from a.state.now (cond a.side.y y_base x_base) (sym c.in-None.is i) k) 0 64)
