-- The rules of the enable modes, as the code makes their masks.
-- Assumes nothing.
use mathlib.Core.Path.{◌≡◌, refl, sym, ap, ◌∙◌}
use mathlib.Core.Bool.{Bool, true, false, cond, not, ◌||◌}
use mathlib.Core.Logic.{⊎_elim}
use Prim.Native.Nat.{ℕ, zero, suc, ◌+◌, ◌-◌, ◌*◌, ◌/◌, ◌%◌, ◌^◌, ◌≤◌, ◌<◌}
use native.Mathlib.Nat.{mod-lt}
use native.Mathlib.Omega.{arith}
use lib.Dec.{eqb}
use lib.Pow.{pow_pos}
use borrow.Author.Tests.{lt-ltb, le-ltb, le-leb, lt-leb, eq-eqb, ne_eqb, eqb-true, eqb-false}
use Rattle.number.proofs.Tests.{two, lt_or_le, pick_false}
use Rattle.isa.specs.Effect.{sum}
use Rattle.isa.specs.Enable.{by_parity, first, last, first_or_all, last_or_all, mac16_enables}
use Rattle.masks.specs.Mask.{mask_of, lane_used, places_of}
use Rattle.masks.proofs.Mask.{mask_same, mask_all, mask_not, mask_first, mask_none, mask_only, shifted}

-- ---- of 64 places

abbrev all : ℕ
all = 2 ^ 64 - 1

-- a rule that holds everywhere
pub all-is : (f : ℕ → Bool) → ((k : ℕ) → k < 64 → f k ≡ true) → all ≡ mask_of f 64
all-is f h = mask_all 64 ∙ mask_same _ _ 64 (λ k l. sym (h k l))

pub all_first : (n : ℕ) → 64 ≤ n → all ≡ mask_of (first n) 64
all_first n h = all-is _ (λ k l. lt-ltb k n (omega arith))

pub all-last : (lanes n : ℕ) → lanes ≤ n → all ≡ mask_of (last lanes n) 64
all-last lanes n h = all-is _ (λ k l. le-leb lanes (k + n) (omega arith))

-- the last n are those that are not before them
pub last-is : (lanes n m : ℕ) → n < lanes → m ≡ mask_of (first (lanes - n)) 64 → all - m ≡ mask_of (last lanes n) 64
last-is lanes n m h e =
    ap (λ (x : ℕ). all - x) e
    ∙ mask_not (first (lanes - n)) 64
    ∙ mask_same _ _ 64
    (λ k l.
    ⊎_elim
    (λ less. ap not (lt-ltb k (lanes - n) less) ∙ sym (lt-leb lanes (k + n) (omega arith)))
    (λ more. ap not (le-ltb k (lanes - n) more) ∙ sym (le-leb lanes (k + n) (omega arith)))
    (lt_or_le k (lanes - n)))

-- one lane by a shift, and all before it
pub first-is : (n : ℕ) → n < 64 → 1 * 2 ^ n % 2 ^ 64 - 1 ≡ mask_of (first n) 64
first-is n h = ap (λ (x : ℕ). x - 1) (shifted n 64 h) ∙ mask_first n 64 (omega arith)

pub only_is : (n : ℕ) → n < 64 → 1 * 2 ^ n % 2 ^ 64 ≡ mask_of (λ k. eqb k n) 64
only_is n h = shifted n 64 h ∙ mask_only n 64 h

-- no lane past the places
pub only_none : (n : ℕ) → 64 ≤ n → 0 ≡ mask_of (λ k. eqb k n) 64
only_none n h = mask_none 64 ∙ mask_same _ _ 64 (λ k l. sym (ne_eqb k n (λ e. omega (arith, e))))

-- of none of the numbers up to b
pub differs : (n b : ℕ) → b < n → eqb n b ≡ false
differs n b h = ne_eqb n b (λ e. omega (arith, e))

-- mac16's modes
pub mac16-mode : (lanes n : ℕ) {mode m : ℕ} → mode ≡ m → mask_of (mac16_enables lanes m n) 64 ≡ mask_of (mac16_enables lanes mode n) 64
mac16-mode lanes n e = ap (λ (m : ℕ). mask_of (mac16_enables lanes m n) 64) (sym e)

pub mac16-mode_3 : (lanes mode n : ℕ) → 3 ≤ mode → mask_of (last_or_all lanes n) 64 ≡ mask_of (mac16_enables lanes mode n) 64
unfolding mac16_enables
mac16-mode_3 lanes mode n h =
    mask_same _ _ 64
    (λ k l. sym (pick_false _ _ (differs mode 0 (omega arith)) ∙ pick_false _ _ (differs mode 1 (omega arith)) ∙ pick_false _ _ (differs mode 2 h)))

-- ---- by parity

pub odd_is : (halved : Bool) → cond halved 0xcccc_cccc_cccc_cccc 0xaaaa_aaaa_aaaa_aaaa ≡ mask_of (λ k. eqb (lane_used halved k % 2) 1) 64
unfolding mask_of sum
odd_is true = refl
odd_is false = refl

-- the even lanes are those that are not odd
pub even_is : (halved : Bool) (m : ℕ) → m ≡ mask_of (λ k. eqb (lane_used halved k % 2) 1) 64 → all - m ≡ mask_of (λ k. eqb (lane_used halved k % 2) 0) 64
even_is halved m e =
    ap (λ (x : ℕ). all - x) e
    ∙ mask_not (λ k. eqb (lane_used halved k % 2) 1) 64
    ∙ mask_same _ _ 64 (λ k h. by (lane_used halved k % 2) (mod-lt (lane_used halved k) (omega arith)))
  where
    by : (d : ℕ) → d < 2 → not (eqb d 1) ≡ eqb d 0
    by zero h = refl
    by (suc zero) h = refl
    by (suc (suc d)) h = absurd (omega arith)

-- in the value's order
pub by_value : (n v : ℕ) (other halved : Bool) → n ≡ v
    → mask_of (λ k. by_parity v other (lane_used halved k)) 64 ≡ mask_of (λ k. by_parity n other (lane_used halved k)) 64
by_value n v other halved e = ap (λ (x : ℕ). mask_of (λ k. by_parity x other (lane_used halved k)) 64) (sym e)

-- ---- a rule for the lane that k uses, as one for k

module _ (k : ℕ) where
  pub first-used : (halved : Bool) (n : ℕ) → first (places_of halved n) k ≡ first n (lane_used halved k)
  first-used false n = refl
  first-used true n =
      ⊎_elim
      (λ less. lt-ltb k (2 * n) less ∙ sym (lt-ltb (k / 2) n (omega arith)))
      (λ more. le-ltb k (2 * n) more ∙ sym (le-ltb (k / 2) n (omega arith)))
      (lt_or_le k (2 * n))

  pub last-used : (halved : Bool) (lanes n : ℕ) → last (places_of halved lanes) (places_of halved n) k ≡ last lanes n (lane_used halved k)
  last-used false lanes n = refl
  last-used true lanes n =
      ⊎_elim
      (λ less. lt-leb (2 * lanes) (k + 2 * n) less ∙ sym (lt-leb lanes (k / 2 + n) (omega arith)))
      (λ more. le-leb (2 * lanes) (k + 2 * n) more ∙ sym (le-leb lanes (k / 2 + n) (omega arith)))
      (lt_or_le (k + 2 * n) (2 * lanes))

-- no places for no lanes
none-used : (halved : Bool) (n : ℕ) → eqb (places_of halved n) 0 ≡ eqb n 0
none-used false n = refl
none-used true n =
    two (eqb n 0) _
    (λ t. eq-eqb (2 * n) 0 (omega (arith, eqb-true n 0 t)) ∙ sym t)
    (λ f. ne_eqb (2 * n) 0 (λ e. eqb-false n 0 f (omega (arith, e))) ∙ sym f)

module _ (k : ℕ) (halved : Bool) where
  pub first-or-all-used : (n : ℕ) → first_or_all (places_of halved n) k ≡ first_or_all n (lane_used halved k)
  first-or-all-used n = λ i. none-used halved n i || first-used k halved n i

  pub last-or-all-used : (lanes n : ℕ) → last_or_all (places_of halved lanes) (places_of halved n) k ≡ last_or_all lanes n (lane_used halved k)
  last-or-all-used lanes n = λ i. none-used halved n i || last-used k halved lanes n i
