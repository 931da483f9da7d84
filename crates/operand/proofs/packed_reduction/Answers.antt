use mathlib.Core.Path.{ap, ◌∙◌}
use Prim.Native.Nat.{ℕ}
use Rattle.operand.specs.Packed.{packed_reduction}
use Rattle.operand.proofs.Entries.{reduction-entry}
use Rattle.isa.specs.Vecint as Vecint
use Rattle.operand.proofs.packed_reduction.Goals as goal

pub returns : goal.returns
returns c = reduction-entry c.width_number.result c.width_number.ensures.1 ∙ ap (λ (n : ℕ). packed_reduction (Vecint.reduction_by n)) c.width_number.ensures.0
