use mathlib.Core.Path.{ap, ◌∙◌}
use Prim.Native.Nat.{ℕ}
use Rattle.isa.specs.Vecint as Vecint
use Rattle.operand.proofs.overrides.Goals as goal

pub returns : goal.returns
unfolding Vecint.overrides
returns c =
    let a = c.args in
    c.overrides_by.ensures ∙ ap (λ (n : ℕ). Vecint.overrides_by a.generation a.op n a.value a.broadcast) c.field.ensures
