use Rattle.std.proofs.Common.{cond, ℤ, pos, negsuc, ◌+ℤ◌, neg_ℤ, ap, ◌∙◌, ap₂, to_z-of_z, w64}
use borrow.Author.Rules.{sfits_of}
use Rattle.number.specs.Bytes.{span}
use Rattle.number.specs.Integers.{signed, wrap, kept, clamp}
use Rattle.vecint.proofs.Lanes.{clamp-sum, clamp-term}
use Rattle.vecint.proofs.clamp16.Goals as goal

pub returns-then-how : goal.returns-then-how
returns-then-how c =
    let a = c.args in
    c.wrapped.ensures ∙ ap (wrap (span 2)) (to_z-of_z {w = w64} (sfits_of c.clamped.type_inv) ∙ c.clamped.ensures
    ∙ ap (clamp (negsuc 32767) (pos 32767)) {y = c.added-v.result} (to_z-of_z {w = w64} (sfits_of c.added-v.type_inv))
    ∙ clamp-sum a.how (signed 2 a.z) a.t c.added-v.result c.signed_by.result c.if-how.true
    (c.signed_by.ensures ∙ ap (λ (t : ℤ). cond a.how.negates (kept 8 (neg_ℤ t)) t)
    (to_z-of_z {w = w64} (sfits_of c.from.type_inv) ∙ c.from.ensures ∙ to_z-of_z c.ranges.t))
    (c.added-v.ensures ∙ ap₂ (λ (x y : ℤ). kept 8 (x +ℤ y)) (to_z-of_z {w = w64} (sfits_of c.signed.type_inv) ∙ c.signed.ensures)
    (to_z-of_z {w = w64} (sfits_of c.signed_by.type_inv))))

pub returns : goal.returns
returns c =
    let a = c.args in
    c.wrapped-2.ensures ∙ ap (wrap (span 2)) (to_z-of_z {w = w64} (sfits_of c.clamped-2.type_inv) ∙ c.clamped-2.ensures
    ∙ ap (clamp (negsuc 32767) (pos 32767)) {y = a.t} (to_z-of_z {w = w64} (sfits_of c.from-2.type_inv) ∙ c.from-2.ensures ∙ to_z-of_z c.ranges.t)
    ∙ clamp-term a.how (signed 2 a.z) a.t c.if-how.false)
