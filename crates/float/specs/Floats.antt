-- One operation on the patterns of floats (their bits as a number), in IEEE 754's binary32 and binary64.
-- "Each lane is one operation rounded once, to nearest with ties to even, compared bit for bit".
-- Of the library's account of floats only the numbers of a format are used: `prec` digits (24, 53), the smallest value 2 ^ -`low` (2 ^ -149,
-- 2 ^ -1074), the weights `hid` of the exponent's field and `top` of the sign, and the field `ones` of infinities and NaNs; besides `size`, how
-- many binary digits a number has, and `nearest`, a quotient or the next number up, by the remainder.
-- Assumes nothing.
use Rattle.std.specs.Prelude.{Bool, false, cond, not, ◌&&◌, ◌||◌, leb, ltb, eqb}
use Rattle.std.specs.Bool.{beq}
use Prim.Native.Nat.{ℕ, zero, suc, ◌+◌, ◌-◌, ◌*◌, ◌/◌, ◌%◌, ◌^◌, ◌<◌, min, compare}
use Rattle.std.specs.Float.{Format}
use Rattle.std.specs.Float.Ieee.{prec, low, hid, ones, top, size, nearest}

-- ---- the value of a pattern

-- "the meaning takes the exact value as a whole number times a power of two": `finite s n` is n * 2 ^ -low, negative where s is true
pub data Value : Type 0 where
  not_number : Value
  infinite : Bool → Value
  finite : Bool → ℕ → Value

abbrev pub sign_of : Format → ℕ → Bool
sign_of f a = leb (top f) a

-- the whole number of an exponent's field x and digits t; "subnormals are kept": a field of 0 has no leading digit
abbrev pub whole : Format → ℕ → ℕ → ℕ
whole f zero t = t
whole f (suc x) t = (hid f + t) * 2 ^ x

abbrev pub of_parts : Format → Bool → ℕ → ℕ → Value
of_parts f s x t = cond (eqb x (ones f)) (cond (eqb t 0) (infinite s) not_number) (finite s (whole f x t))

unfoldable pub value_of : Format → ℕ → Value
value_of f a = of_parts f (sign_of f a) (a % top f / hid f) (a % hid f)

-- ---- the pattern of a result

abbrev pub with_sign : Format → Bool → ℕ → ℕ
with_sign f s p = cond s (top f) 0 + p

abbrev pub infinity : Format → ℕ
infinity f = ones f * hid f

-- "the default NaN, 0x7FC00000 or 0x7FF8000000000000"
abbrev pub default_nan : Format → ℕ
default_nan f = infinity f + hid f / 2

-- n / d to the nearest whole number, a tie to the even one
abbrev pub closest : ℕ → ℕ → ℕ
closest n d = nearest (n / d) (compare (n % d * 2) d)

-- The pattern of n * 2 ^ -(low + j), rounded. Of the whole part of n / 2 ^ j the format keeps `prec` digits and drops k. Each dropped digit
-- raises the exponent's field by one, and so does the leading digit; from the infinity's pattern on it is the infinity.
unfoldable pub rounded : Format → ℕ → ℕ → ℕ
unfolding size
rounded f n j = let k = size (n / 2 ^ j) - prec f in min (k * hid f + closest n (2 ^ (j + k))) (infinity f)

-- neither infinite nor a NaN
abbrev pub Finite : Format → ℕ → Type 0
Finite f a = a % top f < infinity f

-- ---- arithmetic: "signs of zeros, infinities and overflow follow IEEE 754. A NaN from arithmetic becomes the default NaN"

-- of m with sign s and n with sign t. A sum that is exactly zero is -0 where both are negative, and +0 otherwise.
unfoldable pub sum : Format → Bool → ℕ → Bool → ℕ → ℕ
unfolding rounded
sum f s m t n =
    cond (beq s t) (with_sign f s (rounded f (m + n) 0))
    (cond (ltb m n) (with_sign f t (rounded f (n - m) 0))
    (with_sign f (s && ltb n m) (rounded f (m - n) 0)))

unfoldable pub plus : Format → Value → Value → ℕ
unfolding sum
plus f not_number v = default_nan f
plus f (infinite s) not_number = default_nan f
plus f (infinite s) (infinite t) = cond (beq s t) (with_sign f s (infinity f)) (default_nan f)
plus f (infinite s) (finite t n) = with_sign f s (infinity f)
plus f (finite s m) not_number = default_nan f
plus f (finite s m) (infinite t) = with_sign f t (infinity f)
plus f (finite s m) (finite t n) = sum f s m t n

abbrev pub opposite : Value → Value
opposite not_number = not_number
opposite (infinite s) = infinite (not s)
opposite (finite s n) = finite (not s) n

-- the sign of a product
abbrev pub unlike : Bool → Bool → Bool
unlike s t = not (beq s t)

-- infinity times 0 is no number
unfoldable pub times : Format → Value → Value → ℕ
unfolding rounded
times f not_number v = default_nan f
times f (infinite s) not_number = default_nan f
times f (infinite s) (infinite t) = with_sign f (unlike s t) (infinity f)
times f (infinite s) (finite t n) = cond (eqb n 0) (default_nan f) (with_sign f (unlike s t) (infinity f))
times f (finite s m) not_number = default_nan f
times f (finite s m) (infinite t) = cond (eqb m 0) (default_nan f) (with_sign f (unlike s t) (infinity f))
times f (finite s m) (finite t n) = with_sign f (unlike s t) (rounded f (m * n) (low f))

unfoldable pub added : Format → ℕ → ℕ → ℕ
unfolding plus value_of
added f a b = plus f (value_of f a) (value_of f b)

unfoldable pub subtracted : Format → ℕ → ℕ → ℕ
unfolding plus value_of
subtracted f a b = plus f (value_of f a) (opposite (value_of f b))

unfoldable pub multiplied : Format → ℕ → ℕ → ℕ
unfolding times value_of
multiplied f a b = times f (value_of f a) (value_of f b)

-- ---- "Moves keep bits; negation flips the sign bit": of a NaN too

unfoldable pub negated : Format → ℕ → ℕ
negated f a = cond (sign_of f a) (a - top f) (a + top f)

-- x <= 0, which a NaN is not and either zero is
abbrev pub at_most_zero : Value → Bool
at_most_zero not_number = false
at_most_zero (infinite s) = s
at_most_zero (finite s n) = s || eqb n 0

-- "x <= 0 ? 0 : y" (document 000), with the bits of y
unfoldable pub selected : Format → ℕ → ℕ → ℕ
unfolding value_of
selected f x y = cond (at_most_zero (value_of f x)) 0 y
