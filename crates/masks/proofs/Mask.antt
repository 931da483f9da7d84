-- Masks as numbers: their bits, their ones, and what the operations on numbers make of them.
-- Assumes nothing.
use mathlib.Core.Path.{◌≡◌, refl, sym, ap, ap₂, subst, ◌∙◌}
use mathlib.Core.Bool.{Bool, true, false, cond, not, ◌&&◌}
use mathlib.Core.Logic.{⊎_elim}
use Prim.Native.Nat.{ℕ, zero, suc, ◌+◌, ◌-◌, ◌*◌, ◌/◌, ◌%◌, ◌^◌, min, ◌≤◌, ◌<◌}
use native.Mathlib.Nat.{pow-suc, mod-lt, mod-eq_of_lt, mod-one, lt_of_le_of_lt, mul-one, one-mul}
use native.Mathlib.Numerals.{one-add}
use native.Mathlib.Omega.{arith}
use lib.Dec.{ltb, eqb}
use lib.Pow.{pow_pos, low, high, field, mod-pow-add, mod-mod-pow, shl_exact}
use lib.Bits.{bit_and, and_block, and_mask, and_le_r}
use lib.Count.{ones, ones_cat, ones-le}
use borrow.Author.Tests.{lt-ltb, le-ltb, eqb-true}
use Rattle.number.proofs.Tests.{two, lt_or_le, pick_true, pick_false}
use Rattle.isa.specs.Operand.{bits, bit}
use Rattle.isa.specs.Effect.{sum, count}
use Rattle.isa.proofs.Count.{sum-cong, sum-add, sum-plus, sum-const, sum_one, none}
use Rattle.masks.specs.Mask.{mask_of, BitsAreLanes, OnesAreCounted}

-- ---- a rule and its mask

pub mask_same : (f g : ℕ → Bool) (n : ℕ) → ((k : ℕ) → k < n → f k ≡ g k) → mask_of f n ≡ mask_of g n
unfolding mask_of
mask_same f g n h = sum-cong _ _ n (λ k l. ap (λ (b : Bool). cond b (2 ^ k) 0) (h k l))

-- a lane more, as the highest digit
mask_more : (f : ℕ → Bool) (n : ℕ) → mask_of f (suc n) ≡ cond (f n) 1 0 * 2 ^ n + mask_of f n
unfolding mask_of sum
mask_more f n = by (f n)
  where
    by : (b : Bool) → cond b (2 ^ n) 0 + mask_of f n ≡ cond b 1 0 * 2 ^ n + mask_of f n
    by true = omega arith
    by false = omega arith

pub mask_lt : (f : ℕ → Bool) (n : ℕ) → mask_of f n < 2 ^ n
unfolding mask_of sum
mask_lt f zero = omega arith
mask_lt f (suc n) = omega (arith, mask_more f n, mask_lt f n, pow-suc 2 n, one (f n))
  where
    one : (b : Bool) → cond b 1 0 * 2 ^ n ≤ 2 ^ n
    one true = omega arith
    one false = omega arith

-- ---- bits

-- digit k of a number that is known up to its digit n
digit_below : (m r n k : ℕ) → m % 2 ^ n ≡ r → k < n → m / 2 ^ k % 2 ≡ r / 2 ^ k % 2
digit_below m r n k e h =
    sym (field m 1 k)
    ∙ ap (λ (x : ℕ). x / 2 ^ k) (sym (cut m) ∙ ap (λ (x : ℕ). x % 2 ^ (1 + k)) (known ∙ sym itself) ∙ cut r)
    ∙ field r 1 k
  where
    more : n ≡ (n - (1 + k)) + (1 + k)
    more = omega arith

    cut : (x : ℕ) → x % 2 ^ ((n - (1 + k)) + (1 + k)) % 2 ^ (1 + k) ≡ x % 2 ^ (1 + k)
    cut x = mod-mod-pow x (n - (1 + k)) (1 + k)

    known : m % 2 ^ ((n - (1 + k)) + (1 + k)) ≡ r
    known = ap (λ (x : ℕ). m % 2 ^ x) (sym more) ∙ e

    itself : r % 2 ^ ((n - (1 + k)) + (1 + k)) ≡ r
    itself = ap (λ (x : ℕ). r % 2 ^ x) (sym more) ∙ ap (λ (x : ℕ). x % 2 ^ n) (sym e) ∙ mod-eq_of_lt (mod-lt m (pow_pos n)) ∙ e

-- a digit as a bit
bit_is : (m k : ℕ) (b : Bool) → m / 2 ^ k % 2 ≡ cond b 1 0 → bit m k ≡ b
unfolding bits
bit_is m k b e = ap (λ (x : ℕ). eqb (m / 2 ^ k % 2 ^ x) 1) (one k) ∙ ap (λ (x : ℕ). eqb x 1) e ∙ by b
  where
    one : (k : ℕ) → suc k - k ≡ 1
    one k = omega arith

    by : (b : Bool) → eqb (cond b 1 0) 1 ≡ b
    by true = refl
    by false = refl

lane-digit : (f : ℕ → Bool) (n k : ℕ) → k < n → mask_of f n / 2 ^ k % 2 ≡ cond (f k) 1 0
lane-digit f zero k h = absurd (omega arith)
lane-digit f (suc n) k h =
    ap (λ (m : ℕ). m / 2 ^ k % 2) (mask_more f n)
    ∙ ⊎_elim
    (λ less. digit_below _ (mask_of f n) n k (low (cond (f n) 1 0) n (mask_lt f n)) less ∙ lane-digit f n k less)
    (λ top.
    let same : k ≡ n = omega arith in
    subst (λ (j : ℕ). (cond (f n) 1 0 * 2 ^ n + mask_of f n) / 2 ^ j % 2 ≡ cond (f j) 1 0) (sym same)
    (ap (λ (x : ℕ). x % 2) (high (cond (f n) 1 0) n (mask_lt f n)) ∙ by (f n)))
    (lt_or_le k n)
  where
    by : (b : Bool) → cond b 1 0 % 2 ≡ cond b 1 0
    by true = refl
    by false = refl

pub bits-are_lanes : BitsAreLanes
bits-are_lanes f n k h = bit_is (mask_of f n) k (f k) (lane-digit f n k h)

-- ---- ones

digit_is : (m k : ℕ) → cond (bit m k) 1 0 ≡ m / 2 ^ k % 2
digit_is m k = by (m / 2 ^ k % 2) (mod-lt (m / 2 ^ k) (pow_pos 1)) refl
  where
    by : (d : ℕ) → d < 2 → m / 2 ^ k % 2 ≡ d → cond (bit m k) 1 0 ≡ m / 2 ^ k % 2
    by zero h e = ap (λ (b : Bool). cond b 1 0) (bit_is m k false e) ∙ sym e
    by (suc zero) h e = ap (λ (b : Bool). cond b 1 0) (bit_is m k true e) ∙ sym e
    by (suc (suc d)) h e = absurd (omega arith)

ones-digit : (b : Bool) → ones (cond b 1 0) ≡ cond b 1 0
unfolding ones
ones-digit true = refl
ones-digit false = refl

pub ones-are_counted : OnesAreCounted
unfolding ones sum
ones-are_counted m zero = ap ones (mod-one m)
ones-are_counted m (suc n) =
    ap (λ (x : ℕ). ones (m % 2 ^ x)) (sym (one-add n))
    ∙ ap ones (mod-pow-add m 1 n)
    ∙ ones_cat n (m / 2 ^ n % 2) (m % 2 ^ n) (mod-lt m (pow_pos n))
    ∙ ap₂ ◌+◌ (ap ones (sym (digit_is m n)) ∙ ones-digit (bit m n)) (ones-are_counted m n)

-- the bits of a mask, counted as its rule
pub counts_rule : (f : ℕ → Bool) (n lanes m : ℕ) → lanes ≤ n → m ≡ mask_of f n → count (bit m) lanes ≡ count f lanes
counts_rule f n lanes m h e =
    sum-cong _ _ lanes (λ k l. ap (λ (b : Bool). cond b 1 0) (ap (λ (x : ℕ). bit x k) e ∙ bits-are_lanes f n k (omega arith)))

-- ---- operations

pub mask_and : (f g : ℕ → Bool) (n : ℕ) → bit_and (mask_of f n) (mask_of g n) ≡ mask_of (λ k. f k && g k) n
unfolding mask_of sum
mask_and f g zero = refl
mask_and f g (suc n) =
    ap₂ bit_and (mask_more f n) (mask_more g n)
    ∙ and_block n (cond (f n) 1 0) (cond (g n) 1 0) (mask_of f n) (mask_of g n) (mask_lt f n) (mask_lt g n)
    ∙ ap₂ (λ (d r : ℕ). d * 2 ^ n + r) (by (f n) (g n)) (mask_and f g n)
    ∙ sym (mask_more (λ k. f k && g k) n)
  where
    by : (a b : Bool) → bit_and (cond a 1 0) (cond b 1 0) ≡ cond (a && b) 1 0
    by true true = refl
    by true false = refl
    by false true = refl
    by false false = refl

pub mask_none : (n : ℕ) → 0 ≡ mask_of (λ k. false) n
unfolding mask_of
mask_none n = sym (none n)

pub mask_all : (n : ℕ) → 2 ^ n - 1 ≡ mask_of (λ k. true) n
unfolding mask_of sum
mask_all zero = refl
mask_all (suc n) = omega (arith, mask_all n, pow-suc 2 n, pow_pos n)

pub mask_not : (f : ℕ → Bool) (n : ℕ) → (2 ^ n - 1) - mask_of f n ≡ mask_of (λ k. not (f k)) n
unfolding mask_of
mask_not f n =
    let whole : sum (λ k. cond (f k) (2 ^ k) 0 + cond (not (f k)) (2 ^ k) 0) n ≡ mask_of (λ k. true) n =
    sum-cong _ _ n (λ k h. by k (f k))
    in
    omega (arith, mask_all n, sum-plus (λ k. cond (f k) (2 ^ k) 0) (λ k. cond (not (f k)) (2 ^ k) 0) n, whole)
  where
    by : (k : ℕ) (b : Bool) → cond b (2 ^ k) 0 + cond (not b) (2 ^ k) 0 ≡ 2 ^ k
    by k true = omega arith
    by k false = omega arith

pub mask_first : (m n : ℕ) → m ≤ n → 2 ^ m - 1 ≡ mask_of (λ k. ltb k m) n
unfolding mask_of
mask_first m n h =
    mask_all m
    ∙ omega (arith, sum-add (λ k. cond (ltb k m) (2 ^ k) 0) m (n - m), inside, past, whole)
  where
    inside : mask_of (λ k. ltb k m) m ≡ mask_of (λ k. true) m
    inside = mask_same _ _ m (λ k l. lt-ltb k m l)

    past : sum (λ k. cond (ltb (m + k) m) (2 ^ (m + k)) 0) (n - m) ≡ 0
    past = sum-cong _ (λ k. 0) (n - m) (λ k l. pick_false _ _ (le-ltb (m + k) m (omega arith))) ∙ none (n - m)

    whole : mask_of (λ k. ltb k m) n ≡ mask_of (λ k. ltb k m) (m + (n - m))
    whole = ap (mask_of (λ k. ltb k m)) (omega arith)

pub mask_only : (m n : ℕ) → m < n → 2 ^ m ≡ mask_of (λ k. eqb k m) n
unfolding mask_of
mask_only m n h = sym (sum-cong _ (λ k. cond (eqb k m) (2 ^ m) 0) n (λ k l. at k) ∙ sum_one (2 ^ m) m n h)
  where
    at : (k : ℕ) → cond (eqb k m) (2 ^ k) 0 ≡ cond (eqb k m) (2 ^ m) 0
    at k =
        two (eqb k m) _
        (λ t. ap (λ (x : ℕ). cond (eqb k m) (2 ^ x) 0) (eqb-true k m t))
        (λ f. pick_false _ _ f ∙ sym (pick_false _ _ f))

-- a lane by a shift, in a number of w bits
pub shifted : (n w : ℕ) → n < w → 1 * 2 ^ n % 2 ^ w ≡ 2 ^ n
shifted n w h = shl_exact {a = 1} 1 n w (omega arith) (omega arith) ∙ one-mul (2 ^ n)

-- ---- counts

-- as many lanes as there are places for
pub at_most_64 : (n : ℕ) → min n 64 ≡ cond (ltb n 64) n 64
at_most_64 n =
    ⊎_elim
    (λ less. omega arith ∙ sym (pick_true _ _ (lt-ltb n 64 less)))
    (λ more. omega arith ∙ sym (pick_false _ _ (le-ltb n 64 more)))
    (lt_or_le n 64)

-- as the code counts: all of the first lanes, or by a mask of them
pub counted-all : (m n : ℕ) → n ≤ 64 → m ≡ 2 ^ 64 - 1 → n ≡ count (bit m) n
counted-all m n h e = sym (counts_rule (λ k. true) 64 n m h (e ∙ mask_all 64) ∙ sum-const 1 n ∙ mul-one n)

pub counted-some : (m low n : ℕ) → n ≤ 64 → low ≡ mask_of (λ k. ltb k n) 64 → (ones (bit_and m low) ≡ count (bit m) n) × (ones (bit_and m low) ≤ 64)
counted-some m low n h e = (
  ap (λ (x : ℕ). ones (bit_and m x)) (e ∙ sym (mask_first n 64 h)) ∙ ap ones (and_mask m n) ∙ ones-are_counted m n,
  ones-le 64 (bit_and m low) (lt_of_le_of_lt (and_le_r m low) (subst (λ (x : ℕ). x < 2 ^ 64) (sym e) (mask_lt (λ k. ltb k n) 64))),
)
