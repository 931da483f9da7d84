use mathlib.Core.Path.{sym, ◌∙◌}
use Rattle.number.proofs.Tests.{pick_true, pick_false}
use Rattle.loads.proofs.blank.Goals as goal

pub returns-then-y : goal.returns-then-y
returns-then-y c = c.overrides.ensures ∙ sym (pick_false _ _ c.if-skip.false ∙ pick_true _ _ c.if-y.true)

pub returns : goal.returns
returns c = c.overrides-2.ensures ∙ sym (pick_false _ _ c.if-skip.false ∙ pick_false _ _ c.if-y.false)
