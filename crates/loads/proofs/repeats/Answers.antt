use mathlib.Core.Path.{sym, ◌∙◌}
use Rattle.number.proofs.Tests.{pick_true, pick_false}
use Rattle.loads.proofs.repeats.Goals as goal

pub returns-then-y : goal.returns-then-y
returns-then-y c = c.broadcasts.ensures ∙ sym (pick_true _ _ c.if-y.true)

pub returns : goal.returns
returns c = c.broadcasts-2.ensures ∙ sym (pick_false _ _ c.if-y.false)
