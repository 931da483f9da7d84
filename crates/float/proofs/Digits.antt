-- Digits: of the whole part of n / 2 ^ j a format keeps `prec` and drops the rest. What is kept has its leading digit, and fits.
-- Assumes nothing.
use mathlib.Core.Path.{sym, subst}
use Prim.Native.Nat.{ℕ, ◌+◌, ◌-◌, ◌*◌, ◌/◌, ◌%◌, ◌^◌, ◌≤◌, ◌<◌, compare}
use native.Mathlib.Nat.{le_trans, le_of_eq, le-div_iff_mul-le}
use native.Mathlib.Omega.{arith}
use lib.Pow.{pow-add, pow_pos, shr-shr}
use lib.Ieee.{Format, prec, hid, size}
use lib.Ieee.Digits.{size_reaches}
use lib.Ieee.Fits.{kept-lt, nearest-le, two, two-le_pos}
use lib.Ieee.Nearest.{nearest-ge}
use Rattle.float.specs.Floats.{closest}

-- how many digits of the whole part of n / 2 ^ j are dropped
abbrev pub drops : Format → ℕ → ℕ → ℕ
drops f n j = size (n / 2 ^ j) - prec f

-- where some are dropped, the whole part has all `prec` digits before them
pub reaches : (f : Format) (n j : ℕ) → 0 < drops f n j → hid f * 2 ^ drops f n j ≤ n / 2 ^ j
reaches f n j g =
    let w : ℕ = n / 2 ^ j in
    let k : ℕ = drops f n j in
    let p : ℕ = prec f - 1 in
    let counted : p + k < size w = before (size w) (prec f) (two-le_pos (prec f) (two f)) g in
    le_trans (le_of_eq (sym (pow-add 2 p k))) (size_reaches w (p + k) counted)
  where
    before : (z p : ℕ) → 0 < p → 0 < z - p → p - 1 + (z - p) < z
    before z p h g = omega arith

-- what is kept has its leading digit where some are dropped
pub leads : (f : Format) (n j : ℕ) → 0 < drops f n j → hid f ≤ closest n (2 ^ (j + drops f n j))
leads f n j g =
    let k : ℕ = drops f n j in
    let d : ℕ = 2 ^ (j + k) in
    let kept : hid f ≤ n / 2 ^ j / 2 ^ k = (le-div_iff_mul-le (pow_pos k)).1 (reaches f n j g) in
    le_trans (le_trans kept (le_of_eq (shr-shr n j k))) (nearest-ge (n / d) (compare (n % d * 2) d))

-- and at most `prec` digits, or it is the next power
pub fits : (f : Format) (n j : ℕ) → closest n (2 ^ (j + drops f n j)) ≤ 2 ^ prec f
fits f n j =
    let k : ℕ = drops f n j in
    let d : ℕ = 2 ^ (j + k) in
    let kept : n / d < 2 ^ prec f = subst (λ (x : ℕ). x < 2 ^ prec f) (shr-shr n j k) (kept-lt (prec f) (n / 2 ^ j)) in
    le_trans (nearest-le (n / d) (compare (n % d * 2) d)) kept
