use mathlib.Core.Path.{sym, ap, ◌∙◌}
use Prim.Native.Nat.{ℕ}
use Rattle.operand.specs.Packed.{packed}
use Rattle.operand.proofs.Entries.{width-entry}
use Rattle.isa.specs.Vecint as Vecint
use Rattle.number.proofs.Tests.{pick_true, pick_false}
use Rattle.operand.proofs.packed_widths.Goals as goal

pub returns-then-saturates : goal.returns-then-saturates
unfolding Vecint.widths
returns-then-saturates c = ap packed (sym (pick_true _ _ (sym c.if-saturates.ensures)))

pub returns : goal.returns
unfolding Vecint.widths
returns c =
    width-entry c.width_number.result c.width_number.ensures.1 ∙ ap (λ (n : ℕ). packed (Vecint.widths_by n)) c.width_number.ensures.0
    ∙ ap packed (sym (pick_false _ _ (sym c.if-saturates.ensures)))
