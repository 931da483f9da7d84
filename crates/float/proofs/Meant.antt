-- What the language's operations give, on patterns, is what `Floats` says: `lib.Ieee`'s value of a pattern is `value_of`, and its sum and product
-- are written as `plus` and `times`.
-- Assumes nothing.
use mathlib.Core.Path.{◌≡◌, refl, sym, ap, ap₂, ◌∙◌, subst}
use mathlib.Core.Bool.{Bool, true, false, cond, not, ◌&&◌, ◌||◌, beq}
use mathlib.Core.Logic.{⊎_elim}
use Prim.Native.Nat.{ℕ, zero, suc, ◌+◌, ◌-◌, ◌*◌, ◌/◌, ◌%◌, ◌^◌, ◌≤◌, ◌<◌}
use native.Mathlib.Nat.{add-zero, add-mul, mul-sub, mul_comm, mul_right_comm, mul-mul-mul_comm, mul_assoc, mul-pos, mul-one, zero-mul}
use native.Mathlib.Nat.{mul-lt-mul_of_pos_right, mul-le-mul_right, lt_of_mul-lt-mul_right, le_of_mul-le-mul_right}
use native.Mathlib.Omega.{arith}
use lib.Dec.{leb, ltb, eqb}
use lib.IntN.{ℤ, pos}
use lib.Pow.{pow-add, pow_pos}
use lib.Ieee.{Float, nan, inf, fin, Format, prec, low, up, down, hid, ones, top, odd, round, of_fields, of_bits, to_bits}
use lib.Ieee.{neg, sum, add, mul, le, below, level, unlike}
use lib.Ieee.Exact.{HasValue, odd_sign}
use lib.Ieee.Fits.{up_pos, down_pos}
use lib.Ieee.Scale.{round_same}
use borrow.Author.Tests.{lt-ltb, le-ltb, ne_eqb}
use Rattle.float.specs.Floats as Floats
use Rattle.float.specs.Floats.{Value, not_number, infinite, finite, of_parts, value_of, opposite, at_most_zero}
use Rattle.float.specs.Floats.{with_sign, infinity, default_nan, rounded, plus, times}
use Rattle.number.proofs.Tests.{lt_or_le}
use Rattle.float.proofs.Rounded.{round_bits}

-- ---- a pattern's value

-- v is x, where x is exact
abbrev pub Is : Format → Value → Float → Type 0
Is f not_number x = x ≡ nan
Is f (infinite s) x = x ≡ inf s
Is f (finite s n) x = HasValue x s n (2 ^ low f)

fields_are : (f : Format) (s : Bool) (x t : ℕ) → Is f (of_parts f s x t) (of_fields f s x t)
unfolding of_fields
fields_are f s zero t =
    let small : Float = odd (prec f) s t 0 (low f) in
    let numbers : eqb 0 (ones f) ≡ false = ne_eqb 0 (ones f) (λ q. omega arith) in
    subst (λ (b : Bool). Is f (cond b (cond (eqb t 0) (infinite s) not_number) (finite s t)) small) (sym numbers)
    (subst (λ (n : ℕ). HasValue small s n (2 ^ low f)) (mul-one t) (odd_sign (prec f) s t 0 (low f)))
fields_are f s (suc x) t = by (eqb (suc x) (ones f)) (eqb t 0)
  where
    by :
        (a b : Bool)
        → Is f (cond a (cond b (infinite s) not_number) (finite s ((hid f + t) * 2 ^ x)))
        (cond a (cond b (inf s) nan) (odd (prec f) s (hid f + t) x (low f)))
    by true true = refl
    by true false = refl
    by false b = odd_sign (prec f) s (hid f + t) x (low f)

pub read : (f : Format) (a : ℕ) → Is f (value_of f a) (of_bits f a)
unfolding value_of of_bits
read f a = fields_are f (leb (top f) a) (a % top f / hid f) (a % hid f)

pub negated-is : (f : Format) (v : Value) (x : Float) → Is f v x → Is f (opposite v) (neg x)
unfolding neg
negated-is f not_number x h = ap neg h
negated-is f (infinite s) x h = ap neg h
negated-is f (finite s n) (fin t m e) h = (ap not h.0, h.1)
negated-is f (finite s n) nan h = elim h [ ]
negated-is f (finite s n) (inf _) h = elim h [ ]

-- ---- what is written

nan_bits : (f : Format) → to_bits f nan ≡ default_nan f
unfolding to_bits
nan_bits f = refl

inf_bits : (f : Format) (s : Bool) → to_bits f (inf s) ≡ with_sign f s (infinity f)
unfolding to_bits
inf_bits f s = refl

-- a / c is n * 2 ^ -(low + j)
rounds :
    (f : Format) (s : Bool) (a c n j : ℕ) → 0 < c → a * 2 ^ (low f + j) ≡ n * c
    → to_bits f (round f s a c) ≡ with_sign f s (rounded f n j)
rounds f s a c n j C e = ap (to_bits f) (round_same f s a c n (2 ^ (low f + j)) C (pow_pos (low f + j)) e) ∙ round_bits f s n j

either : (f : Format) (b : Bool) (x y : Float) {m n : ℕ} → to_bits f x ≡ m → to_bits f y ≡ n → to_bits f (cond b x y) ≡ cond b m n
either f true x y p q = p
either f false x y p q = q

-- ---- sums

-- a / c is m / L, and b / c is n / L
module _ (a b c m n L : ℕ) (p : a * L ≡ m * c) (q : b * L ≡ n * c) where
  scaled-test : 0 < c → 0 < L → ltb a b ≡ ltb m n
  scaled-test C D = ⊎_elim less more (lt_or_le a b)
    where
      less : a < b → ltb a b ≡ ltb m n
      less h =
          let wide : a * L < b * L = mul-lt-mul_of_pos_right h D in
          let same : m * c < n * c = omega arith in
          lt-ltb a b h ∙ sym (lt-ltb m n (lt_of_mul-lt-mul_right c same))

      more : b ≤ a → ltb a b ≡ ltb m n
      more h =
          let wide : b * L ≤ a * L = mul-le-mul_right L h in
          let same : n * c ≤ m * c = omega arith in
          le-ltb a b h ∙ sym (le-ltb m n (le_of_mul-le-mul_right same C))

  scaled-sum : (a + b) * L ≡ (m + n) * c
  scaled-sum = add-mul a b L ∙ ap₂ (λ (x y : ℕ). x + y) p q ∙ sym (add-mul m n c)

  scaled-difference : (a - b) * L ≡ (m - n) * c
  scaled-difference = sub-mul a b L ∙ ap₂ (λ (x y : ℕ). x - y) p q ∙ sym (sub-mul m n c)
    where
      sub-mul : (a b c : ℕ) → (a - b) * c ≡ a * c - b * c
      sub-mul a b c = mul_comm (a - b) c ∙ mul-sub c a b ∙ ap₂ (λ (x y : ℕ). x - y) (mul_comm c a) (mul_comm c b)

sum-bits :
    (f : Format) (s : Bool) (a : ℕ) (t : Bool) (b c m n : ℕ) → 0 < c → a * 2 ^ (low f + 0) ≡ m * c → b * 2 ^ (low f + 0) ≡ n * c
    → to_bits f (sum f s a t b c) ≡ Floats.sum f s m t n
unfolding sum Floats.sum
sum-bits f s a t b c m n C p q =
    let L : ℕ = 2 ^ (low f + 0) in
    let D : 0 < L = pow_pos (low f + 0) in
    let less : ltb a b ≡ ltb m n = scaled-test a b c m n L p q C D in
    let more : ltb b a ≡ ltb n m = scaled-test b a c n m L q p C D in
    -- the three results
    let both : Float = round f s (a + b) c in
    let second : Float = round f t (b - a) c in
    let first : Bool → Float = λ v. round f (s && v) (a - b) c in
    let both_is = rounds f s (a + b) c (m + n) 0 C (scaled-sum a b c m n L p q) in
    let second_is = rounds f t (b - a) c (n - m) 0 C (scaled-difference b a c n m L q p) in
    let first-is = rounds f (s && ltb n m) (a - b) c (m - n) 0 C (scaled-difference a b c m n L p q) in
    ap₂ (λ (u v : Bool). to_bits f (cond (beq s t) both (cond u second (first v)))) less more
    ∙ either f (beq s t) both (cond (ltb m n) second (first (ltb n m))) both_is
    (either f (ltb m n) second (first (ltb n m)) second_is first-is)

abbrev sum_bits : Format → Float → Float → ℕ
sum_bits f x y = to_bits f (add f x y)

pub plus-is : (f : Format) (u v : Value) (x y : Float) → Is f u x → Is f v y → to_bits f (add f x y) ≡ plus f u v
unfolding plus add
plus-is f not_number v x y h k = ap (λ (z : Float). sum_bits f z y) h ∙ nan_bits f
plus-is f (infinite s) not_number x y h k = ap₂ (sum_bits f) h k ∙ nan_bits f
plus-is f (infinite s) (infinite t) x y h k = ap₂ (sum_bits f) h k ∙ either f (beq s t) (inf s) nan (inf_bits f s) (nan_bits f)
plus-is f (infinite s) (finite t n) x (fin t' m e) h k = ap (λ (z : Float). sum_bits f z (fin t' m e)) h ∙ inf_bits f s
plus-is f (finite s m) not_number (fin s' m' e) y h k = ap (sum_bits f (fin s' m' e)) k ∙ nan_bits f
plus-is f (finite s m) (infinite t) (fin s' m' e) y h k = ap (sum_bits f (fin s' m' e)) k ∙ inf_bits f t
plus-is f (infinite s) (finite t n) x nan h k = elim k [ ]
plus-is f (infinite s) (finite t n) x (inf _) h k = elim k [ ]
plus-is f (finite s m) not_number nan y h k = elim h [ ]
plus-is f (finite s m) not_number (inf _) y h k = elim h [ ]
plus-is f (finite s m) (infinite t) nan y h k = elim h [ ]
plus-is f (finite s m) (infinite t) (inf _) y h k = elim h [ ]
plus-is f (finite s m) (finite t n) nan y h k = elim h [ ]
plus-is f (finite s m) (finite t n) (inf _) y h k = elim h [ ]
plus-is f (finite s m) (finite t n) (fin s' m' e) nan h k = elim k [ ]
plus-is f (finite s m) (finite t n) (fin s' m' e) (inf _) h k = elim k [ ]
plus-is f (finite s m) (finite t n) (fin s' m' e) (fin t' n' d) h k =
    let a : ℕ = m' * up e * down d in
    let b : ℕ = n' * up d * down e in
    let c : ℕ = down e * down d in
    let first : a * 2 ^ (low f + 0) ≡ m * c = across (m' * up e) (down d) m (down e) h.1 in
    let turned : n * (down d * down e) ≡ n * c = ap (λ (x : ℕ). n * x) (mul_comm (down d) (down e)) in
    let second : b * 2 ^ (low f + 0) ≡ n * c = across (n' * up d) (down e) n (down d) k.1 ∙ turned in
    ap₂ (λ (u v : Bool). to_bits f (sum f u a v b c)) h.0 k.0
    ∙ sum-bits f s a t b c m n (mul-pos (down_pos e) (down_pos d)) first second
  where
    across : (a b c d : ℕ) → a * 2 ^ low f ≡ c * d → a * b * 2 ^ (low f + 0) ≡ c * (d * b)
    across a b c d e =
        ap (λ (x : ℕ). a * b * 2 ^ x) (add-zero (low f))
        ∙ mul_right_comm a b (2 ^ low f)
        ∙ ap (λ (x : ℕ). x * b) e
        ∙ mul_assoc c d b

-- ---- products

-- a number is 0 just where its value is
zero_same : (a n L d : ℕ) → 0 < L → 0 < d → a * L ≡ n * d → eqb a 0 ≡ eqb n 0
zero_same zero zero L d h_l hd p = refl
zero_same zero (suc n) L d h_l hd p = let some : 0 < suc n * d = mul-pos (omega arith) hd in absurd (omega arith)
zero_same (suc a) zero L d h_l hd p = let some : 0 < suc a * L = mul-pos (omega arith) h_l in absurd (omega arith)
zero_same (suc a) (suc n) L d h_l hd p = ne_eqb (suc a) 0 (λ q. omega arith) ∙ sym (ne_eqb (suc n) 0 (λ q. omega arith))

zero_test : (f : Format) (s : Bool) (n : ℕ) (t : Bool) (m : ℕ) (e : ℤ) → HasValue (fin t m e) s n (2 ^ low f) → eqb m 0 ≡ eqb n 0
zero_test f s n t m e h =
    let L : ℕ = up e * 2 ^ low f in
    let value : m * L ≡ n * down e = sym (mul_assoc m (up e) (2 ^ low f)) ∙ h.1 in
    zero_same m n L (down e) (mul-pos (up_pos e) (pow_pos (low f))) (down_pos e) value

-- infinity times a number that is 0 where z is true
infinity-times : (f : Format) (z s : Bool) → to_bits f (cond z nan (inf s)) ≡ cond z (default_nan f) (with_sign f s (infinity f))
infinity-times f z s = either f z nan (inf s) (nan_bits f) (inf_bits f s)

abbrev product_bits : Format → Float → Float → ℕ
product_bits f x y = to_bits f (mul f x y)

pub times-is : (f : Format) (u v : Value) (x y : Float) → Is f u x → Is f v y → to_bits f (mul f x y) ≡ times f u v
unfolding times mul
times-is f not_number v x y h k = ap (λ (z : Float). product_bits f z y) h ∙ nan_bits f
times-is f (infinite s) not_number x y h k = ap₂ (product_bits f) h k ∙ nan_bits f
times-is f (infinite s) (infinite t) x y h k = ap₂ (product_bits f) h k ∙ inf_bits f (unlike s t)
times-is f (infinite s) (finite t n) x (fin t' m e) h k =
    ap (λ (z : Float). product_bits f z (fin t' m e)) h
    ∙ ap₂ (λ (a b : Bool). to_bits f (cond a nan (inf (unlike s b)))) (zero_test f t n t' m e k) k.0
    ∙ infinity-times f (eqb n 0) (unlike s t)
times-is f (finite s m) not_number (fin s' m' e) y h k = ap (product_bits f (fin s' m' e)) k ∙ nan_bits f
times-is f (finite s m) (infinite t) (fin s' m' e) y h k =
    ap (product_bits f (fin s' m' e)) k
    ∙ ap₂ (λ (a b : Bool). to_bits f (cond a nan (inf (unlike b t)))) (zero_test f s m s' m' e h) h.0
    ∙ infinity-times f (eqb m 0) (unlike s t)
times-is f (infinite s) (finite t n) x nan h k = elim k [ ]
times-is f (infinite s) (finite t n) x (inf _) h k = elim k [ ]
times-is f (finite s m) not_number nan y h k = elim h [ ]
times-is f (finite s m) not_number (inf _) y h k = elim h [ ]
times-is f (finite s m) (infinite t) nan y h k = elim h [ ]
times-is f (finite s m) (infinite t) (inf _) y h k = elim h [ ]
times-is f (finite s m) (finite t n) nan y h k = elim h [ ]
times-is f (finite s m) (finite t n) (inf _) y h k = elim h [ ]
times-is f (finite s m) (finite t n) (fin s' m' e) nan h k = elim k [ ]
times-is f (finite s m) (finite t n) (fin s' m' e) (inf _) h k = elim k [ ]
times-is f (finite s m) (finite t n) (fin s' m' e) (fin t' n' d) h k =
    let a : ℕ = m' * up e in
    let b : ℕ = n' * up d in
    let c : ℕ = down e * down d in
    ap₂ (λ (u v : Bool). to_bits f (round f (unlike u v) (a * b) c)) h.0 k.0
    ∙ rounds f (unlike s t) (a * b) c (m * n) (low f) (mul-pos (down_pos e) (down_pos d)) (product a m (down e) b n (down d) h.1 k.1)
  where
    product : (a m c b n d : ℕ) → a * 2 ^ low f ≡ m * c → b * 2 ^ low f ≡ n * d → a * b * 2 ^ (low f + low f) ≡ m * n * (c * d)
    product a m c b n d p q =
        ap (λ (x : ℕ). a * b * x) (pow-add 2 (low f) (low f))
        ∙ mul-mul-mul_comm a b (2 ^ low f) (2 ^ low f)
        ∙ ap₂ (λ (x y : ℕ). x * y) p q
        ∙ mul-mul-mul_comm m c n d

-- ---- a comparison with 0

at_most : (t : Bool) (a : ℕ) → (below t a false 0 || level t a false 0) ≡ (t || eqb a 0)
at_most true zero = refl
at_most true (suc a) = ap (λ (b : Bool). b || level true (suc a) false 0) (lt-ltb 0 (suc a + 0) (omega arith))
at_most false zero = refl
at_most false (suc a) = rw (le-ltb (suc a) 0 (omega arith), ne_eqb (suc a) 0 (λ q. omega arith))

infinity-at_most : (s : Bool) → (s || false) ≡ s
infinity-at_most true = refl
infinity-at_most false = refl

pub at-most_zero : (f : Format) (v : Value) (x : Float) → Is f v x → le x (fin false 0 (pos 0)) ≡ at_most_zero v
unfolding le
at-most_zero f not_number x h = ap (λ (z : Float). le z (fin false 0 (pos 0))) h
at-most_zero f (infinite s) x h = ap (λ (z : Float). le z (fin false 0 (pos 0))) h ∙ infinity-at_most s
at-most_zero f (finite s n) (fin t m e) h =
    let a : ℕ = m * up e * 1 in
    let value : a * 2 ^ low f ≡ n * down e = ap (λ (x : ℕ). x * 2 ^ low f) (mul-one (m * up e)) ∙ h.1 in
    ap (λ (b : ℕ). below t a false b || level t a false b) (zero-mul (down e))
    ∙ at_most t a
    ∙ ap₂ (λ (x y : Bool). x || y) h.0 (zero_same a n (2 ^ low f) (down e) (pow_pos (low f)) (down_pos e) value)
at-most_zero f (finite s n) nan h = elim h [ ]
at-most_zero f (finite s n) (inf _) h = elim h [ ]
