-- What is computed of finite values is no NaN.
-- Assumes nothing.
use mathlib.Core.Path.{◌≡◌, refl, sym, subst}
use mathlib.Core.Bool.{Bool, true, false, cond, not, ◌&&◌, beq}
use Prim.Native.Nat.{ℕ, zero, suc, ◌+◌, ◌-◌, ◌*◌, ◌/◌, ◌%◌, ◌^◌, ◌<◌}
use native.Mathlib.Nat.{div-lt_iff_lt-mul}
use native.Mathlib.Omega.{arith}
use lib.Dec.{T, eqb, ltb}
use lib.Ieee.{Float, nan, inf, fin, Format, binary32, binary64, prec, emax, low, hid, ones, top}
use lib.Ieee.{odd, units, round, sum, is_nan, nan_bits, of_bits, add, sub, mul, neg}
use lib.Ieee.Exact.{HasValue}
use borrow.Author.Tests.{ne_eqb}
use Rattle.number.proofs.Tests.{pick_false}
use Rattle.float.specs.Floats.{Value, Finite, finite, whole, sign_of, value_of}
use Rattle.float.proofs.Nans.{read_number}
use Rattle.float.proofs.Meant.{Is, read, negated-is}

-- ---- what is rounded is no NaN

abbrev Number : Float → Type 0
Number x = is_nan x ≡ false

odd_number : (d : ℕ) (s : Bool) (q k l : ℕ) → Number (odd d s q k l)
unfolding odd is_nan
odd_number d s zero k l = refl
odd_number d s (suc q) k l = refl

infinite_number : (s : Bool) → Number (inf s)
unfolding is_nan
infinite_number s = refl

chosen : (b : Bool) (x y : Float) → Number x → Number y → Number (cond b x y)
chosen true x y h k = h
chosen false x y h k = k

units_number : (f : Format) (s : Bool) (q k : ℕ) → Number (units f s q k)
unfolding units
units_number f s q k =
    let small : Bool = ltb (q * 2 ^ k) (2 ^ (low f + suc (emax f))) in
    chosen small (odd (suc (prec f)) s q k (low f)) (inf s) (odd_number (suc (prec f)) s q k (low f)) (infinite_number s)

round_number : (f : Format) (s : Bool) (num den : ℕ) → Number (round f s num den)
unfolding round
round_number f s num den = units_number f s _ _

sum_number : (f : Format) (s : Bool) (a : ℕ) (t : Bool) (b c : ℕ) → Number (sum f s a t b c)
unfolding sum
sum_number f s a t b c =
    let less : Float = round f t (b - a) c in
    let more : Float = round f (s && ltb b a) (a - b) c in
    chosen (beq s t) (round f s (a + b) c) (cond (ltb a b) less more) (round_number f s (a + b) c)
    (chosen (ltb a b) less more (round_number f t (b - a) c) (round_number f (s && ltb b a) (a - b) c))

-- ---- nor is what is computed of finite values

module _ (f : Format) where
  added-number : (x y : Float) (s t : Bool) (m n c : ℕ) → HasValue x s m c → HasValue y t n c → Number (add f x y)
  unfolding add
  added-number nan y s t m n c h k = absurd h
  added-number (inf b) y s t m n c h k = absurd h
  added-number (fin b p e) nan s t m n c h k = absurd k
  added-number (fin b p e) (inf d) s t m n c h k = absurd k
  added-number (fin b p e) (fin d q g) s t m n c h k = sum_number f b _ d _ _

  multiplied-number : (x y : Float) (s t : Bool) (m n c : ℕ) → HasValue x s m c → HasValue y t n c → Number (mul f x y)
  unfolding mul
  multiplied-number nan y s t m n c h k = absurd h
  multiplied-number (inf b) y s t m n c h k = absurd h
  multiplied-number (fin b p e) nan s t m n c h k = absurd k
  multiplied-number (fin b p e) (inf d) s t m n c h k = absurd k
  multiplied-number (fin b p e) (fin d q g) s t m n c h k = round_number f _ _ _

  -- the exponent's field of a finite pattern is not that of an infinity
  below : (a : ℕ) → Finite f a → a % top f / hid f < ones f
  below a h = (div-lt_iff_lt-mul (hid-pos f)).1 h
    where
      hid-pos : (f : Format) → 0 < hid f
      hid-pos binary32 = omega arith
      hid-pos binary64 = omega arith

  finite-read : (a : ℕ) → Finite f a → HasValue (of_bits f a) (sign_of f a) (whole f (a % top f / hid f) (a % hid f)) (2 ^ low f)
  unfolding value_of
  finite-read a h =
      let field : ℕ = a % top f / hid f in
      let other : eqb field (ones f) ≡ false = ne_eqb field (ones f) (λ e. omega (arith, e, below a h)) in
      subst (λ (v : Value). Is f v (of_bits f a)) (pick_false _ _ other) (read f a)

  abbrev no_nan : Float → Type 0
  no_nan x = T (not (is_nan x))

  told : (x : Float) → Number x → no_nan x
  told x e = subst (λ (b : Bool). T (not b)) (sym e) tt

  pub finite_number : (a : ℕ) → Finite f a → T (not (nan_bits f a))
  finite_number a h = read_number f a (omega (arith, h))

  module _ (a b : ℕ) (h : Finite f a) (k : Finite f b) where
    pub sum-finite : no_nan (add f (of_bits f a) (of_bits f b))
    sum-finite = told _ (added-number (of_bits f a) (of_bits f b) _ _ _ _ _ (finite-read a h) (finite-read b k))

    pub product-finite : no_nan (mul f (of_bits f a) (of_bits f b))
    product-finite = told _ (multiplied-number (of_bits f a) (of_bits f b) _ _ _ _ _ (finite-read a h) (finite-read b k))

    pub difference-finite : no_nan (sub f (of_bits f a) (of_bits f b))
    unfolding sub
    difference-finite =
        let opposite = negated-is f (finite (sign_of f b) (whole f (b % top f / hid f) (b % hid f))) (of_bits f b) (finite-read b k) in
        told _ (added-number (of_bits f a) (neg (of_bits f b)) _ _ _ _ _ (finite-read a h) opposite)
