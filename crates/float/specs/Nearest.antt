-- What rounding is: no value of the format is nearer.
-- Assumes nothing.
use Rattle.std.specs.Prelude.{ℕ, ◌+◌, ◌-◌, ◌*◌, ◌/◌, ◌%◌, ◌^◌, ◌≤◌, ◌<◌}
use Rattle.std.specs.Float.{Format}
use Rattle.std.specs.Float.Ieee.{hid}
use Rattle.float.specs.Floats.{whole, infinity, rounded}

-- how far apart two numbers are
abbrev pub apart : ℕ → ℕ → ℕ
apart a b = (a - b) + (b - a)

-- the whole number of a pattern without its sign
abbrev pub whole_of : Format → ℕ → ℕ
whole_of f p = whole f (p / hid f) (p % hid f)

-- Where n / 2 ^ j does not overflow, no finite pattern p is nearer to it than the one it is rounded to. Both sides are multiplied by 2 ^ j.
abbrev pub NoneNearer : Type 0
NoneNearer =
    (f : Format) (n j p : ℕ) → rounded f n j < infinity f → p < infinity f
    → apart (whole_of f (rounded f n j) * 2 ^ j) n ≤ apart (whole_of f p * 2 ^ j) n
