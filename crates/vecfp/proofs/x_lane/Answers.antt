use mathlib.Core.Path.{sym, ◌∙◌}
use Rattle.number.proofs.Tests.{pick_true, pick_false}
use Rattle.vecfp.proofs.x_lane.Goals as goal

pub returns-then-broadcasts : goal.returns-then-broadcasts
returns-then-broadcasts c = sym (pick_true _ _ (sym c.broadcasts.ensures ∙ c.if-broadcasts.true))

pub returns : goal.returns
returns c = sym (pick_false _ _ (sym c.broadcasts.ensures ∙ c.if-broadcasts.false))
