use Rattle.reduction.proofs.Cases.{added-half}
use mir.Facts.{to_z-of_z}
use borrow.Author.Rules.{sfits_of}
use mathlib.Core.Path.{sym, ◌∙◌}
use native.Mathlib.Omega.{arith}
use Rattle.number.proofs.Tests.{pick_false}
use mir.Syntax.{w64}
use Rattle.reduction.proofs.rounding.Goals as goal

pub returns-then-how : goal.returns-then-how
returns-then-how c = added-half c.args.how _ c.if-how.true (to_z-of_z {w = w64} (sfits_of c.half_unit.type_inv) ∙ c.half_unit.ensures)

pub returns-else-how : goal.returns-else-how
returns-else-how c = (sym (pick_false _ _ c.if-how.false), omega arith)
