use mathlib.Core.Path.{sym, ◌∙◌}
use Rattle.number.proofs.Tests.{pick_true, pick_false}
use Rattle.isa.specs.Vecint as Vecint
use native.Mathlib.Omega.{arith}
use Rattle.operand.proofs.Fields.{bits-lt}
use Rattle.operand.proofs.vecint_shift.Goals as goal

pub returns-then-saturates : goal.returns-then-saturates
unfolding Vecint.shift
returns-then-saturates c = (sym (pick_true _ _ (sym c.if-saturates.ensures)), omega arith)

pub overflow_cast-result : goal.overflow_cast-result
overflow_cast-result c = record { fits = omega (arith, c.field.ensures, bits-lt c.args.op 58 62) }

pub returns : goal.returns
unfolding Vecint.shift
returns c = (c.field.ensures ∙ sym (pick_false _ _ (sym c.if-saturates.ensures)), omega (arith, c.field.ensures, bits-lt c.args.op 58 62))
