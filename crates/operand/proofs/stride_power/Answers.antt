use mathlib.Core.Path.{sym, ◌∙◌}
use native.Mathlib.Omega.{arith}
use Rattle.number.proofs.Tests.{pick_true, pick_false}
use Rattle.isa.specs.Vecint as Vecint
use Rattle.operand.proofs.stride_power.Goals as goal

pub returns-in-true-true : goal.returns-in-true-true
unfolding Vecint.stride
returns-in-true-true c = (sym (pick_true _ _ (sym c.in-true-true.ensures) ∙ pick_true _ _ (sym c.in-true-true.ensures')), omega arith)

pub returns-in-true-false : goal.returns-in-true-false
unfolding Vecint.stride
returns-in-true-false c = (sym (pick_true _ _ (sym c.in-true-false.ensures) ∙ pick_false _ _ (sym c.in-true-false.ensures')), omega arith)

pub returns-in-false-default : goal.returns-in-false-default
unfolding Vecint.stride
returns-in-false-default c = (sym (pick_false _ _ (sym c.in-false-default.ensures)), omega arith)
