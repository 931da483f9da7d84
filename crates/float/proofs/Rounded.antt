-- The pattern that `lib.Ieee` writes for a rounded value is `rounded`.
-- Assumes nothing.
use mathlib.Core.Path.{◌≡◌, sym, ap, ap₂, ◌∙◌, subst}
use mathlib.Core.Bool.{Bool, cond}
use mathlib.Core.Logic.{⊎_elim}
use Prim.Native.Nat.{ℕ, zero, suc, ◌+◌, ◌-◌, ◌*◌, ◌/◌, ◌^◌, ◌≤◌, ◌<◌, min}
use native.Mathlib.Nat.{add_assoc, add-mul, mul_assoc, mul-pos, mul-div_cancel, mul-le-mul_right, le_of_mul-le-mul_right, pow-suc}
use native.Mathlib.Nat.{le_trans, le_of_eq, lt_of_lt_of_le, lt_of_le_of_lt, lt_irrefl, lt_of_not-le, eq-or-lt_of_le, eq-zero-or-pos}
use native.Mathlib.Nat.{min-eq_left, min-eq_right}
use native.Mathlib.Omega.{arith}
use lib.Pow.{pow-add, pow_pos, pow_mono, pow-lt, shl_lt}
use lib.Ieee.{Float, inf, fin, Format, binary32, binary64, prec, emax, low, up, down, hid, top, size, odd, units, round, to_bits}
use lib.Ieee.Digits.{size-lt, size-le}
use lib.Ieee.Exact.{HasValue, units_val}
use lib.Ieee.Fits.{down_pos, round_is}
use lib.Ieee.Nearest.{closest_same, div_same}
use borrow.Author.Tests.{le-ltb}
use Rattle.float.specs.Floats.{with_sign, infinity, closest, rounded}
use Rattle.float.proofs.Digits.{drops, leads, fits}
use Rattle.number.proofs.Tests.{lt_or_le}

-- ---- a value's pattern, by its whole number

-- the pattern, without its sign, of the whole number n: d digits are kept, and h is the weight of the exponent's field
abbrev written : ℕ → ℕ → ℕ → ℕ
written d h n = (size n - d) * h + n / 2 ^ (size n - d)

bits_of :
    (f : Format) (v : Float) (s : Bool) (n : ℕ) → HasValue v s n (2 ^ low f)
    → to_bits f v ≡ with_sign f s (written (prec f) (hid f) n)
unfolding to_bits
bits_of f (fin t m e) s n (same, h) =
    let whole : m * up e * 2 ^ low f / down e ≡ n = ap (λ (x : ℕ). x / down e) h ∙ mul-div_cancel n (down_pos e) in
    let k : ℕ = size n - prec f in
    ap₂ (λ (b : Bool) (x : ℕ). cond b (top f) 0 + (size x - prec f) * hid f + x / 2 ^ (size x - prec f)) same whole
    ∙ add_assoc (cond s (top f) 0) (k * hid f) (n / 2 ^ k)
bits_of f lib.Ieee.nan s n x' = elim x' [ ]
bits_of f (inf _) s n x3 = elim x3 [ ]

-- ---- the digits that are kept, and those dropped

pow_back : (i j : ℕ) → 2 ^ i < 2 ^ j → i < j
pow_back i j h = lt_of_not-le (λ (g : j ≤ i). lt_irrefl (2 ^ i) (lt_of_lt_of_le h (pow_mono g)))

size_ge : (n i : ℕ) → 2 ^ i ≤ n → i < size n
size_ge n i h = pow_back i (size n) (lt_of_le_of_lt h (size-lt n))

-- a bound of q, with k zeros put after both
shifted-ge : (i k : ℕ) {q : ℕ} → 2 ^ i ≤ q → 2 ^ (i + k) ≤ q * 2 ^ k
shifted-ge i k h = le_trans (le_of_eq (pow-add 2 i k)) (mul-le-mul_right (2 ^ k) h)

shifted-le : (i k : ℕ) {q : ℕ} → q ≤ 2 ^ i → q * 2 ^ k ≤ 2 ^ (i + k)
shifted-le i k h = le_trans (mul-le-mul_right (2 ^ k) h) (le_of_eq (sym (pow-add 2 i k)))

-- q of at most p + 1 digits, the leading one kept where some are dropped
module _ (p q k : ℕ) (full : 0 < k → 2 ^ p ≤ q) where
  abbrev n : ℕ
  n = q * 2 ^ k

  dropped : q < 2 ^ suc p → size n - suc p ≡ k
  dropped h =
      let most : size n ≤ suc p + k = size-le n (suc p + k) (shl_lt (suc p) k h) in
      ⊎_elim
      (λ (z : k ≡ 0). omega arith)
      (λ (g : 0 < k). let least : p + k < size n = size_ge n (p + k) (shifted-ge p k (full g)) in omega arith)
      (eq-zero-or-pos k)

  packed-under : q < 2 ^ suc p → written (suc p) (2 ^ p) n ≡ k * 2 ^ p + q
  packed-under h =
      ap (λ (x : ℕ). x * 2 ^ p + n / 2 ^ x) (dropped h)
      ∙ ap (λ (x : ℕ). k * 2 ^ p + x) (mul-div_cancel q (pow_pos k))

-- a carry out of the digits: q is 2 ^ suc p
packed-carry : (p k : ℕ) → written (suc p) (2 ^ p) (2 ^ suc p * 2 ^ k) ≡ k * 2 ^ p + 2 ^ suc p
packed-carry p k =
    ap (written (suc p) (2 ^ p)) same
    ∙ packed-under p (2 ^ p) (suc k) (λ _. omega arith) (pow-lt (omega arith))
    ∙ twice (2 ^ p) k
    ∙ ap (λ (x : ℕ). k * 2 ^ p + x) (sym (pow-suc 2 p))
  where
    same : 2 ^ suc p * 2 ^ k ≡ 2 ^ p * 2 ^ suc k
    same = sym (pow-add 2 (suc p) k) ∙ ap (λ (x : ℕ). 2 ^ x) (omega arith) ∙ pow-add 2 p (suc k)

    twice : (h k : ℕ) → suc k * h + h ≡ k * h + h * 2
    twice h k = omega arith

packed : (p q k : ℕ) → (0 < k → 2 ^ p ≤ q) → q ≤ 2 ^ suc p → written (suc p) (2 ^ p) (q * 2 ^ k) ≡ k * 2 ^ p + q
packed p q k full h =
    ⊎_elim
    (λ (e : q ≡ 2 ^ suc p). subst (λ (x : ℕ). written (suc p) (2 ^ p) (x * 2 ^ k) ≡ k * 2 ^ p + x) (sym e) (packed-carry p k))
    (packed-under p q k full)
    (eq-or-lt_of_le h)

-- ---- the largest patterns: the infinity's is (2 E + 1) h, where h is the weight of the exponent's field

module _ (p E q k : ℕ) (some : 0 < E) (full : 0 < k → 2 ^ p ≤ q) (most : q ≤ 2 ^ suc p) where
  abbrev h : ℕ
  h = 2 ^ p

  -- a value below 2 ^ (p + 2 E), in units of the smallest, has a pattern that is at most the infinity's
  under : q * 2 ^ k < 2 ^ (p + 2 * E) → k * h + q ≤ (2 * E + 1) * h
  under l = le_trans (adds k h q twice) (mul-le-mul_right h (two-more k (fewer k full l)))
    where
      twice : q ≤ h * 2
      twice = le_trans most (le_of_eq (pow-suc 2 p))

      adds : (k h q : ℕ) → q ≤ h * 2 → k * h + q ≤ (k + 2) * h
      adds k h q m = omega (arith, add-mul k 2 h)

      two-more : (k : ℕ) → k < 2 * E → k + 2 ≤ 2 * E + 1
      two-more k m = omega arith

      fewer : (k : ℕ) → (0 < k → 2 ^ p ≤ q) → q * 2 ^ k < 2 ^ (p + 2 * E) → k < 2 * E
      fewer zero full l = omega arith
      fewer (suc k) full l =
          let least : 2 ^ (p + suc k) ≤ q * 2 ^ suc k = shifted-ge p (suc k) (full (omega arith)) in
          let less : p + suc k < p + 2 * E = pow_back (p + suc k) (p + 2 * E) (lt_of_le_of_lt least l) in
          omega arith

  -- and any other has one that is at least that
  over : 2 ^ (p + 2 * E) ≤ q * 2 ^ k → (2 * E + 1) * h ≤ k * h + q
  over l = ⊎_elim at-end beyond (eq-or-lt_of_le reach)
    where
      reach : 2 * E ≤ suc k
      reach =
          let within : 2 ^ (p + 2 * E) ≤ 2 ^ (suc p + k) = le_trans l (shifted-le (suc p) k most) in
          let next : p + 2 * E < suc (suc p + k) = pow_back (p + 2 * E) (suc (suc p + k)) (lt_of_le_of_lt within (pow-lt (omega arith))) in
          omega arith

      adds : (i k h q : ℕ) → h * i ≤ q → (k + i) * h ≤ k * h + q
      adds i k h q m = omega (arith, add-mul k i h)

      at-end : 2 * E ≡ suc k → (2 * E + 1) * h ≤ k * h + q
      at-end e =
          let same : 2 ^ suc p * 2 ^ k ≡ 2 ^ (p + 2 * E) = sym (pow-add 2 (suc p) k) ∙ ap (λ (x : ℕ). 2 ^ x) (omega arith) in
          let all : 2 ^ suc p ≤ q = le_of_mul-le-mul_right (le_trans (le_of_eq same) l) (pow_pos k) in
          le_trans (mul-le-mul_right h (omega arith)) (adds 2 k h q (le_trans (le_of_eq (sym (pow-suc 2 p))) all))

      beyond : 2 * E < suc k → (2 * E + 1) * h ≤ k * h + q
      beyond e = le_trans (mul-le-mul_right h (omega arith)) (adds 1 k h q (omega (arith, full (omega arith))))

  finite-written : q * 2 ^ k < 2 ^ (p + 2 * E) → written (suc p) h (q * 2 ^ k) ≡ min (k * h + q) ((2 * E + 1) * h)
  finite-written l = packed p q k full most ∙ sym (min-eq_left (under l))

-- ---- a rounded value

module _ (f : Format) (s : Bool) (q k : ℕ) (full : 0 < k → hid f ≤ q) (most : q ≤ 2 ^ prec f) where
  -- from here on, in units of the smallest value, it is an infinity
  abbrev limit : Format → ℕ
  limit f = 2 ^ (low f + suc (emax f))

  finite-bits : q * 2 ^ k < limit f → to_bits f (units f s q k) ≡ with_sign f s (min (k * hid f + q) (infinity f))
  finite-bits l = bits_of f (units f s q k) s (q * 2 ^ k) (units_val f s q k l) ∙ ap (with_sign f s) (by f full most l)
    where
      by : (f : Format) → (0 < k → hid f ≤ q) → q ≤ 2 ^ prec f → q * 2 ^ k < limit f
          → written (prec f) (hid f) (q * 2 ^ k) ≡ min (k * hid f + q) (infinity f)
      by binary32 = finite-written 23 127 q k (omega arith)
      by binary64 = finite-written 52 1023 q k (omega arith)

  infinite-bits : limit f ≤ q * 2 ^ k → to_bits f (units f s q k) ≡ with_sign f s (min (k * hid f + q) (infinity f))
  unfolding units to_bits
  infinite-bits l =
      ap (λ (b : Bool). to_bits f (cond b (odd (suc (prec f)) s q k (low f)) (inf s))) (le-ltb (q * 2 ^ k) (limit f) l)
      ∙ ap (with_sign f s) (sym (min-eq_right (by f full most l)))
    where
      by : (f : Format) → (0 < k → hid f ≤ q) → q ≤ 2 ^ prec f → limit f ≤ q * 2 ^ k → infinity f ≤ k * hid f + q
      by binary32 = over 23 127 q k (omega arith)
      by binary64 = over 52 1023 q k (omega arith)

  units-bits : to_bits f (units f s q k) ≡ with_sign f s (min (k * hid f + q) (infinity f))
  units-bits = ⊎_elim finite-bits infinite-bits (lt_or_le (q * 2 ^ k) (limit f))

-- n * 2 ^ -(low + j), rounded: `round` has n * L / D, which is n / 2 ^ j
module _ (f : Format) (n j : ℕ) where
  abbrev L : ℕ
  L = 2 ^ low f

  abbrev D : ℕ
  D = 2 ^ (low f + j)

  abbrev K : ℕ
  K = drops f n j

  same-fraction : n * L * 2 ^ j ≡ n * D
  same-fraction = mul_assoc n L (2 ^ j) ∙ ap (λ (x : ℕ). n * x) (sym (pow-add 2 (low f) j))

  -- as many digits are dropped
  same-drops : size (n * L / D) - prec f ≡ K
  same-drops = ap (λ (x : ℕ). size x - prec f) (div_same (n * L) D n (2 ^ j) (pow_pos (low f + j)) (pow_pos j) same-fraction)

  -- and the same ones are kept
  same_digits : closest (n * L) (D * 2 ^ K) ≡ closest n (2 ^ (j + K))
  same_digits =
      closest_same (n * L) (D * 2 ^ K) n (2 ^ (j + K)) (mul-pos (pow_pos (low f + j)) (pow_pos K)) (pow_pos (j + K))
      (ap (λ (x : ℕ). n * L * x) (pow-add 2 j K)
      ∙ sym (mul_assoc (n * L) (2 ^ j) (2 ^ K))
      ∙ ap (λ (x : ℕ). x * 2 ^ K) same-fraction
      ∙ mul_assoc n D (2 ^ K))

  round-units : (s : Bool) → round f s n D ≡ units f s (closest n (2 ^ (j + K))) K
  round-units s =
      round_is f s n D
      ∙ ap (λ (x : ℕ). units f s (closest (n * L) (D * 2 ^ x)) x) same-drops
      ∙ ap (λ (x : ℕ). units f s x K) same_digits

pub round_bits : (f : Format) (s : Bool) (n j : ℕ) → to_bits f (round f s n (2 ^ (low f + j))) ≡ with_sign f s (rounded f n j)
unfolding rounded
round_bits f s n j =
    let k : ℕ = drops f n j in
    ap (to_bits f) (round-units f n j s) ∙ units-bits f s (closest n (2 ^ (j + k))) k (leads f n j) (fits f n j)
