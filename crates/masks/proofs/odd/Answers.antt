use mathlib.Core.Path.{sym, ◌∙◌}
use Rattle.number.proofs.Tests.{pick_true, pick_false}
use Rattle.masks.proofs.Enabled.{odd_is}
use Rattle.masks.proofs.odd.Goals as goal

pub returns-then-halved : goal.returns-then-halved
returns-then-halved c = sym (pick_true _ _ c.if-halved.true) ∙ odd_is c.args.halved

pub returns-else-halved : goal.returns-else-halved
returns-else-halved c = sym (pick_false _ _ c.if-halved.false) ∙ odd_is c.args.halved
