use Rattle.number.proofs.Tests.{pick_true, pick_false}
use mathlib.Core.Path.{sym}
use Rattle.sides.proofs.signed_by.Goals as goal

pub returns-then-how : goal.returns-then-how
returns-then-how c = sym (pick_true _ _ c.if-how.true)

pub returns-else-how : goal.returns-else-how
returns-else-how c = sym (pick_false _ _ c.if-how.false)
