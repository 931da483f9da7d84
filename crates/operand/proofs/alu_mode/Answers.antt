use mathlib.Core.Path.{sym, ◌∙◌}
use Rattle.number.proofs.Tests.{pick_true, pick_false}
use Rattle.isa.specs.Vecint as Vecint
use native.Mathlib.Omega.{arith}
use Rattle.operand.proofs.Fields.{bits-lt}
use Rattle.operand.proofs.alu_mode.Goals as goal

pub returns-then-flag : goal.returns-then-flag
unfolding Vecint.mode
returns-then-flag c = (sym (pick_true _ _ (sym c.if-flag.ensures)), omega arith)

pub returns : goal.returns
unfolding Vecint.mode
returns c = (c.field.ensures ∙ sym (pick_false _ _ (sym c.if-flag.ensures)), omega (arith, c.field.ensures, bits-lt c.args.op 47 52))
