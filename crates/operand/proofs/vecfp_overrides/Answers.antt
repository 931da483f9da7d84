use mathlib.Core.Path.{ap, ◌∙◌}
use Prim.Native.Nat.{ℕ}
use Rattle.isa.specs.Vecint as Vecint
use Rattle.isa.specs.Vecfp as Vecfp
use Rattle.operand.proofs.vecfp_overrides.Goals as goal

pub returns : goal.returns
unfolding Vecfp.overrides
returns c =
    let a = c.args in
    c.overrides_by.ensures ∙ ap (λ (n : ℕ). Vecint.overrides_by a.generation a.op n a.value a.broadcast) c.vecfp_value.ensures.0
