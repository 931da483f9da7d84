use Rattle.number.proofs.Modular.{wrap-from_m}
use Rattle.number.proofs.Range.{bits-kept, bits-signed}
use Rattle.number.specs.Integers.{signed}
use Rattle.std.proofs.Common.{ℕ, ◌-◌, ◌%◌, ◌^◌, refl, ap, ◌∙◌, pow_pos, mod-lt, arith, to_z-of_z, w64}
use borrow.Author.Rules.{sfits_of}
use Rattle.number.proofs.negated.Goals as goal

pub returns : goal.returns
returns c =
    let v = c.args.v in
    to_z-of_z {w = w64} (sfits_of c.wrapping_neg.type_inv) ∙ rw (to_z-of_z c.ranges.v) at c.wrapping_neg.ensures
    ∙ bits-signed w64 8 _ refl refl (mod-lt _ (pow_pos 64))
    ∙ ap (signed 8)
    (ap (λ (x : ℕ). (2 ^ 64 - x) % 2 ^ 64) (bits-kept w64 v (omega (arith, c.ranges.v.sfits))) ∙ wrap-from_m (2 ^ 64) (pow_pos 64) v)
