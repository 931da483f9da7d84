use Rattle.std.proofs.Common.{ℤ, neg_ℤ, sym, ap, ◌∙◌, to_z-of_z}
use borrow.Author.Rules.{sfits_of}
use Rattle.number.specs.Integers.{kept}
use Rattle.number.proofs.Tests.{pick_true, pick_false}
use mir.Syntax.{w64}
use Rattle.vecint.proofs.signed_by.Goals as goal

pub returns-then-negates : goal.returns-then-negates
returns-then-negates c =
    to_z-of_z {w = w64} (sfits_of c.negated.type_inv) ∙ c.negated.ensures ∙ ap (λ (x : ℤ). kept 8 (neg_ℤ x)) (to_z-of_z c.ranges.t)
    ∙ sym (pick_true _ _ c.if-negates.true)

pub returns-else-negates : goal.returns-else-negates
returns-else-negates c = to_z-of_z c.ranges.t ∙ sym (pick_false _ _ c.if-negates.false)
