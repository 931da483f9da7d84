use Rattle.number.proofs.Modular.{wrap-add}
use Rattle.number.proofs.Range.{bits-kept, bits-signed}
use Rattle.number.specs.Integers.{signed}
use Rattle.std.proofs.Common.{ℕ, ◌+◌, ◌%◌, ◌^◌, refl, sym, ap, ◌∙◌, ap₂, pow_pos, mod-lt, arith, w64}
use Rattle.number.proofs.added.Goals as goal

pub returns : goal.returns
returns c =
    bits-signed w64 8 _ refl refl (mod-lt _ (pow_pos 64))
    ∙ ap (signed 8)
    (ap₂ (λ (x y : ℕ). (x + y) % 2 ^ 64) (bits-kept w64 c.args.a (omega (arith, c.ranges.a.sfits))) (bits-kept w64 c.args.b (omega (arith, c.ranges.b.sfits)))
    ∙ sym (wrap-add (2 ^ 64) (pow_pos 64) c.args.a c.args.b))
