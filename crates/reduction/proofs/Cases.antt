-- What mode 4 makes of a lane, by the branches of the code.
-- Assumes nothing.
use mathlib.Core.Path.{◌≡◌, refl, sym, ap, ◌∙◌, subst}
use mathlib.Core.Bool.{Bool, true, false, cond, ◌&&◌}
use mathlib.Core.List.{List}
use mathlib.Core.Logic.{⊎_elim}
use Prim.Native.Nat.{ℕ, zero, suc, ◌+◌, ◌-◌, ◌*◌, ◌/◌, ◌%◌, ◌^◌, ◌≤◌, ◌<◌}
use Rattle.isa.proofs.Place.{factor_pos}
use Rattle.std.proofs.Common.{mul-le-mul}
use Rattle.std.proofs.Math.Nat.{le-mul_of_pos_right, le_refl}
use native.Mathlib.Nat.{suc-mul, mod-lt, mod-eq_of_lt, zero-lt-suc, zero-mod}
use native.Mathlib.Omega.{arith}
use borrow.Author.Tests.{ne_eqb, lt-ltb, le-ltb}
use Rattle.std.specs.Prelude.{Option, Some, None}
use lib.Dec.{eqb}
use lib.IntN.{ℤ, pos, negsuc, ◌+ℤ◌}
use lib.ListN.{set, get_or}
use lib.Pow.{pow_mono}
use lib.Seq.{sets}
use lib.Signed.{mag, lt_z}
use mir.Facts.{to_z-of_z, sfits_lit, sfits_widen}
use mir.Syntax.{Width, w32, w64}
use mir.Val.{SFits, to_z, of_z}
use Rattle.number.specs.Bytes.{span, byte_at, number, table, bytes_of}
use Rattle.number.specs.Integers.{read, wrap, half_unit, clamp, clamp_signed}
use Rattle.number.proofs.Bytes.{byte_of_zero}
use Rattle.number.proofs.Range.{mag-add}
use Rattle.number.proofs.Tests.{pick_true, pick_false, lt_or_le}
use Rattle.isa.specs.Effect.{applied}
use Rattle.state.proofs.RunLoop.{run-outside}
use Rattle.reduction.specs.declared.Range.{Range}
use Rattle.reduction.specs.declared.Reduce.{Reduce}
use Rattle.reduction.specs.Reduction.{width_in, clamp_by, value_of, new_of, reduce_to, added_to, shifted_by, low_end, high_end, lane_stored, row_reduced}

-- ---- the sum that is shifted

half-small : (s : ℕ) → s < 32 → mag (half_unit s) ≤ 2 ^ 30
half-small zero h = omega arith
half-small (suc s) h = pow_mono {i = s} {j = 30} (omega arith)

pub added-half : (how : Reduce) (r : ℤ) → how.rounds ≡ true → r ≡ half_unit (how.shift % 32) → (r ≡ added_to how) × (mag r ≤ 2 ^ 30)
added-half how r t e =
    (e ∙ sym (pick_true _ _ t), subst (λ (x : ℤ). mag x ≤ 2 ^ 30) (sym e) (half-small (how.shift % 32) (mod-lt how.shift (zero-lt-suc 31))))

-- it fits an i64, and an i32 where the lane has up to 16 bits
pub sum_fits : (old r : ℤ) → mag old < 2 ^ 40 → mag r ≤ 2 ^ 30 → SFits w64 (old +ℤ r)
sum_fits old r ho hr = record { sfits = omega (arith, mag-add old r {A = 2 ^ 40} {B = 2 ^ 31} ho (omega arith)) }

pub sum-fits_32 : (old r : ℤ) → mag old < 2 ^ 16 → mag r ≤ 2 ^ 30 → SFits w32 (old +ℤ r)
sum-fits_32 old r ho hr = record { sfits = omega (arith, mag-add old r {A = 2 ^ 16} {B = 2 ^ 30 + 1} ho (omega arith)) }

-- as code holds it
module _ (w : Width) (old r : ℤ) (fo : SFits w old) (fr : SFits w r) (fs : SFits w (old +ℤ r)) where
  parts : to_z w (of_z w old) +ℤ to_z w (of_z w r) ≡ old +ℤ r
  parts = λ i. to_z-of_z fo i +ℤ to_z-of_z fr i

  pub added-fits : SFits w (to_z w (of_z w old) +ℤ to_z w (of_z w r))
  added-fits = subst (SFits w) (sym parts) fs

  pub added_is : to_z w (of_z w (to_z w (of_z w old) +ℤ to_z w (of_z w r))) ≡ old +ℤ r
  added_is = to_z-of_z added-fits ∙ parts

-- an i64 that an i32 holds, cast to it
module _ (z : ℤ) (f : SFits w32 z) where
  same : to_z w64 (of_z w64 z) ≡ z
  same = to_z-of_z (sfits_widen {w = w32} {w' = w64} tt f)

  pub cast_fits : SFits w32 (to_z w64 (of_z w64 z))
  cast_fits = subst (SFits w32) (sym same) f

  pub cast_is : to_z w32 (of_z w32 (to_z w64 (of_z w64 z))) ≡ z
  cast_is = ap (λ (x : ℤ). to_z w32 (of_z w32 x)) same ∙ to_z-of_z f

-- ---- the ends of the range, in an i32

pub low_fits : (below : Bool) (b : ℕ) → SFits w32 (low_end below b)
low_fits below b = go below (eqb b 1) (eqb b 2)
  where
    go : (s one two : Bool) → SFits w32 (cond s (negsuc (span (cond one 1 (cond two 2 4)) / 2 - 1)) (pos 0))
    go false one two = sfits_lit tt
    go true true two = sfits_lit tt
    go true false true = sfits_lit tt
    go true false false = sfits_lit tt

pub high_fits : (n : ℕ) → SFits w32 (clamp_signed 4 (pos n))
high_fits n =
    ⊎_elim
    (λ (h : 2147483647 < n). subst (SFits w32) (sym (pick_true _ _ (lt-ltb 2147483647 n h))) (sfits_lit tt))
    (λ (h : n ≤ 2147483647). subst (SFits w32) (sym (pick_false _ _ (le-ltb 2147483647 n h))) (record { sfits = omega arith }))
    (lt_or_le 2147483647 n)

-- above what an i32 holds there is nothing to clamp
not_above : (n : ℕ) (v : ℤ) → mag v < 2 ^ 31 → 2147483647 ≤ n → lt_z (pos n) v ≡ false
not_above n (pos m) h l = le-ltb n m (omega arith)
not_above n (negsuc m) h l = refl

pub clamp-same : (low : ℤ) (n : ℕ) (v : ℤ) → mag v < 2 ^ 31 → clamp low (clamp_signed 4 (pos n)) v ≡ clamp low (pos n) v
clamp-same low n v h =
    ⊎_elim
    (λ (l : 2147483647 < n).
    ap (λ (x : ℤ). clamp low x v) (pick_true _ _ (lt-ltb 2147483647 n l))
    ∙ ap (λ (x : ℤ). cond (lt_z v low) low x) (pick_false _ _ (not_above 2147483647 v h (omega arith)) ∙ sym (pick_false _ _ (not_above n v h (omega arith)))))
    (λ (l : n ≤ 2147483647). ap (λ (x : ℤ). clamp low x v) (pick_false _ _ (le-ltb 2147483647 n l)))
    (lt_or_le 2147483647 n)

-- ---- the value

module _ (how : Reduce) (old v : ℤ) (ev : v ≡ shifted_by how old) where
  pub value-clamped : (to : Range) → how.clamp ≡ Some to → clamp (low_end to.below to.width) (high_end to.below to.width) v ≡ value_of how old
  unfolding value_of
  value-clamped to e =
      by to.below
      ∙ ap (clamp_by (Some to)) ev
      ∙ ap (λ (c : Option Range). clamp_by c (shifted_by how old)) (sym e)
    where
      by : (s : Bool) → clamp (low_end s to.width) (high_end s to.width) v ≡ cond s
          (clamp (low_end true to.width) (high_end true to.width) v)
          (clamp (low_end false to.width) (high_end false to.width) v)
      by true = refl
      by false = refl

  pub value-left : how.clamp ≡ None → v ≡ value_of how old
  unfolding value_of
  value-left e = ev ∙ ap (λ (c : Option Range). clamp_by c (shifted_by how old)) (sym e)

-- ---- a lane

pub cleared-is : (how : Reduce) (b : ℕ) (old : ℤ) → how.clears ≡ true → wrap (span b) (pos 0) ≡ new_of b how old
cleared-is how b old e = ap (wrap (span b)) (sym (pick_true _ _ e))

pub reduced-is : (how : Reduce) (b : ℕ) (old v : ℤ) → how.clears ≡ false → v ≡ value_of how old → wrap (span b) v ≡ new_of b how old
reduced-is how b old v e ev = ap (wrap (span b)) (ev ∙ sym (pick_false _ _ e))

pub reduce-is : (how : Reduce) (b z : ℕ) (old : ℤ) → old ≡ read how.sign b z → new_of b how old ≡ reduce_to b how z
unfolding reduce_to
reduce-is how b z old e = ap (new_of b how) e

-- the lane as the code stores it, where z is what it reads and n what it makes of it
pub stored_is : {A : Type 0} (number_of : A → ℕ) (b : ℕ) (how : Reduce) (s : List ℕ) (at : ℕ) (on : Bool) (z n r : A)
    → number_of z ≡ number b (byte_at s) at → number_of n ≡ reduce_to b how (number_of z) → r ≡ cond on n z
    → sets s at (bytes_of b (number_of r)) ≡ lane_stored b how s at on
stored_is number_of b how s at on z n r ez en er = ap (λ (x : ℕ). sets s at (bytes_of b x)) (ap number_of er ∙ by on)
  where
    old : ℕ
    old = number b (byte_at s) at

    by : (o : Bool) → number_of (cond o n z) ≡ cond o (reduce_to b how old) old
    by true = en ∙ ap (reduce_to b how) ez
    by false = ez

-- ---- a row

-- the lanes that fill it
lanes-in : (one two : Bool) → (m : ℕ) × (m * cond one 1 (cond two 2 4) ≡ 64)
lanes-in true two = (64, refl)
lanes-in false true = (32, refl)
lanes-in false false = (16, refl)

-- past the 64 rows there is nothing to change
pub row-outside : (b row : ℕ) (on : List Bool) (how : Reduce) (s : List ℕ) → 64 ≤ row → s ≡ applied (row_reduced (width_in b) row on how) s
row-outside b row on how s h =
    let m : (m : ℕ) × (m * width_in b ≡ 64) = lanes-in (eqb b 1) (eqb b 2) in
    run-outside (row_reduced (width_in b) row on how) m.0 m.1 row 1 s (λ r l f. ap (λ (t : Bool). t && get_or on l false) f) h

-- a lane lies in its row
pub lane-in : (l n b : ℕ) → l < n → n * b ≡ 64 → l * b + b ≤ 64
lane-in l n b h e =
    let more : suc l * b ≤ n * b = mul-le-mul h (le_refl b) in
    omega (arith, suc-mul l b, more, e)

-- and a row in the registers
pub lane-inside : (l n b c row : ℕ) → l < n → n * b ≡ 64 → c ≡ b → row < 64 → 1024 + (row * 64 + l * c) + b ≤ 5120
lane-inside l n b c row h e f hr = let inside : l * c + b ≤ 64 = subst (λ (x : ℕ). l * x + b ≤ 64) (sym f) (lane-in l n b h e) in omega arith

pub lanes-few : (n b : ℕ) → n * b ≡ 64 → n ≤ 64
lanes-few n b e = omega (arith, le-mul_of_pos_right n (factor_pos b n 63 e), e)
