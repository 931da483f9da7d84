-- The enabled lanes and their bytes, counted by the mask.
-- Assumes nothing.
use mathlib.Core.Path.{◌≡◌, sym, ap, ap₂, ◌∙◌}
use mathlib.Core.Bool.{Bool, cond, ◌&&◌}
use mathlib.Core.Logic.{⊎_elim}
use Prim.Native.Nat.{ℕ, ◌+◌, ◌*◌, ◌/◌, ◌%◌, ◌≤◌, ◌<◌}
use native.Mathlib.Nat.{mod-lt, mul-div_cancel, mul_assoc}
use native.Mathlib.Omega.{arith}
use lib.Arith.{digits_mod}
use lib.Dec.{ltb, eqb}
use borrow.Author.Tests.{lt-ltb, le-ltb}
use Rattle.number.proofs.Tests.{pick_true, pick_false, lt_or_le}
use Rattle.isa.specs.Operand.{bit}
use Rattle.isa.specs.Effect.{sum, count, bytes_on, lanes_on}
use Rattle.isa.specs.Vecint as Vecint
use Rattle.isa.specs.Vecfp as Vecfp
use Rattle.isa.specs.Vecfp.{width}
use Rattle.isa.proofs.Count.{sum-cong, sum-const, sum-groups, sum_one, count-if, bytes_of}
use Rattle.isa.proofs.Place.{factor_pos}
use Rattle.isa.proofs.Places.{Stride, stride}
use Rattle.masks.specs.Mask.{mask_of}
use Rattle.masks.proofs.Mask.{counts_rule}
use Rattle.vecfp.proofs.Sides.{fits, few-lanes}

-- w strides of s rows make 64; a lane is enabled where its row is the g-th of a stride and f holds of it
rows-count : (w s : ℕ) → w * s ≡ 64 → (f : ℕ → Bool) (g : ℕ) → g < s → (n : ℕ)
    → sum (λ p. count (λ l. eqb (p % s) g && f l) n) 64 ≡ w * count f n
rows-count w s all f g h n =
    sum-cong _ row 64 (λ p l. count-if (eqb (p % s) g) f n)
    ∙ ap (sum row) (sym all)
    ∙ sum-groups row w s
    ∙ sum-cong _ (λ v. count f n) w
    (λ v l.
    sum-cong (λ p. row (v * s + p)) (λ p. cond (eqb p g) (count f n) 0) s (λ p hp. ap (λ (x : ℕ). cond (eqb x g) (count f n) 0) (digits_mod v hp))
    ∙ sum_one (count f n) g s h)
    ∙ sum-const (count f n) w
  where
    row : ℕ → ℕ
    row p = cond (eqb (p % s) g) (count f n) 0

count-rows : (s : ℕ) → Stride s → (f : ℕ → Bool) (z n : ℕ) → sum (λ p. count (λ l. eqb (p % s) (z % s) && f l) n) 64 ≡ 64 / s * count f n
count-rows s (t, (w, (es, ew))) f z n =
    rows-count w s ew f (z % s) (mod-lt z some) n
    ∙ ap (λ (x : ℕ). x * count f n) (sym (ap (λ (x : ℕ). x / s) (sym ew) ∙ mul-div_cancel w some))
  where
    some : 0 < s
    some = factor_pos s w 63 ew

count-vecfp : (gen op : ℕ) → lanes_on (Vecfp.vecfp gen op) ≡ 64 / Vecint.stride gen op * count (Vecfp.enabled gen op) (Vecfp.lanes op)
unfolding lanes_on Vecfp.on Vecfp.writes
count-vecfp gen op = count-rows (Vecint.stride gen op) (stride gen op) (Vecfp.enabled gen op) (Vecint.z_row op) (Vecfp.lanes op)

-- ---- as the code counts them, by the mask

module _ (op : ℕ) where
  few : Vecfp.lanes op ≤ 64
  few = few-lanes (Vecfp.format_of op)

  -- a vector's bytes
  pub vector-counted : (mask lanes n b : ℕ) → lanes ≡ Vecfp.lanes op → n ≡ count (bit mask) (cond (ltb lanes 64) lanes 64) → b ≡ width (Vecfp.format_of op)
      → n * b ≡ count (bit mask) (Vecfp.lanes op) * width (Vecfp.format_of op)
  vector-counted mask lanes n b el en eb = ap₂ ◌*◌ (en ∙ ap (count (bit mask)) at_most) eb
    where
      at_most : cond (ltb lanes 64) lanes 64 ≡ Vecfp.lanes op
      at_most =
          ⊎_elim (λ less. pick_true _ _ (lt-ltb lanes 64 less) ∙ el)
          (λ more. pick_false _ _ (le-ltb lanes 64 more) ∙ omega (arith, el, few))
          (lt_or_le lanes 64)

  -- those of all vectors
  pub counted : (gen vectors bytes mask : ℕ) → vectors ≡ 64 / Vecint.stride gen op → mask ≡ mask_of (Vecfp.enabled gen op) 64
      → bytes ≡ count (bit mask) (Vecfp.lanes op) * width (Vecfp.format_of op) → vectors * bytes ≡ bytes_on (Vecfp.vecfp gen op)
  counted gen vectors bytes mask ev em eb =
      let n : ℕ = count (Vecfp.enabled gen op) (Vecfp.lanes op) in
      let b : ℕ = width (Vecfp.format_of op) in
      let lanes : vectors * n ≡ lanes_on (Vecfp.vecfp gen op) = ap (λ (v : ℕ). v * n) ev ∙ sym (count-vecfp gen op) in
      ap (λ (x : ℕ). vectors * x) (eb ∙ ap (λ (k : ℕ). k * b) (counts_rule (Vecfp.enabled gen op) 64 (Vecfp.lanes op) mask few em))
      ∙ sym (mul_assoc vectors n b)
      ∙ bytes_of (Vecfp.vecfp gen op) (Vecfp.lanes op, fits (Vecfp.format_of op)) (vectors * n) lanes
