-- Ignored bits cleared, one after the other.
-- Assumes nothing.
use mathlib.Core.Path.{◌≡◌, sym, ap, ◌∙◌}
use Prim.Native.Nat.{ℕ, suc, ◌-◌, ◌*◌, ◌/◌, ◌%◌, ◌^◌, ◌≤◌, ◌<◌}
use native.Mathlib.Nat.{mod-le, mod-eq_of_lt, mul-le-mul_right}
use native.Mathlib.Omega.{arith}
use lib.Pow.{split}
use Rattle.isa.specs.Operand.{bits, cleared}
use Rattle.isa.proofs.Clear.{cleared-zero}
use Rattle.operand.proofs.Fields.{field_past}

-- ---- one field

module _ (op first last : ℕ) (size : op < 2 ^ 64) where
  pub clear-past : 63 < first → op ≡ cleared op first last
  clear-past h = sym (cleared-zero op first last (sym (field_past op first last size h)))

  -- the field where it stands
  in_place : bits op first last * 2 ^ first ≤ op
  unfolding bits
  in_place =
      let part : op / 2 ^ first % 2 ^ (suc last - first) * 2 ^ first ≤ op / 2 ^ first * 2 ^ first =
      mul-le-mul_right (2 ^ first) (mod-le (op / 2 ^ first) (2 ^ (suc last - first)))
      in omega (arith, part, split op first)

  module _ {n : ℕ} (e : n ≡ bits op first last) where
    shifted : n * 2 ^ first % 2 ^ 64 ≡ bits op first last * 2 ^ first
    shifted = ap (λ (k : ℕ). k * 2 ^ first % 2 ^ 64) e ∙ mod-eq_of_lt (omega (arith, in_place, size))

    pub clear-fits : n * 2 ^ first % 2 ^ 64 ≤ op
    clear-fits = omega (arith, shifted, in_place)

    pub clear-some : op - n * 2 ^ first % 2 ^ 64 ≡ cleared op first last
    unfolding cleared
    clear-some = ap (λ (k : ℕ). op - k) shifted
