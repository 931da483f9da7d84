use mathlib.Core.Path.{sym}
use native.Mathlib.Omega.{arith}
use Rattle.number.proofs.Tests.{pick_true, pick_false}
use Rattle.sides.proofs.rounding32.Goals as goal

pub returns-then-rounds : goal.returns-then-rounds
returns-then-rounds c = (sym (pick_true _ _ c.if-rounds.true), omega arith)

pub returns-else-rounds : goal.returns-else-rounds
returns-else-rounds c = (sym (pick_false _ _ c.if-rounds.false), omega arith)
