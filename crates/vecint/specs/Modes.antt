-- ALU modes by what the code does for them: one formula for all but mode 4.
-- Assumes nothing.
use Rattle.std.specs.Prelude.{ℕ, Bool, true, false, cond, not, ◌||◌, ℤ, pos, ◌==◌}
use Rattle.number.specs.Integers.{clamp_signed}
use Rattle.isa.specs.Vecint.{mode, forces_zero}
use Rattle.sides.specs.Sides.{term_of}
use Rattle.vecint.specs.declared.Alu.{Alu}
use Rattle.vecint.specs.Accumulation.{summed}

-- the modes that make no product: 2, 3, 11 and 12, and those of no row of the table
unfoldable pub sums_in : ℕ → Bool
sums_in m = cond (m == 0) false (cond (m == 1) false (cond (m == 5) false (cond (m == 6) false (not (m == 10)))))

-- of these, the ones that have y alone: x is left out of the sum, as 0
unfoldable pub y_alone : ℕ → Bool
y_alone m = cond (m == 2) false (cond (m == 3) false (cond (m == 11) false (sums_in m)))

unfoldable pub negates_in : ℕ → Bool
negates_in m = cond (m == 1) true (cond (m == 3) true (m == 6))

abbrev pub alu_of : ℕ → Alu
alu_of m = record { sums = sums_in m; skipx = y_alone m; skipy = (m == 11); negates = negates_in m; keeps = not (m == 10); clamps = m == 5 || (m == 6) }

-- an output that is forced to 0: nothing read, nothing kept
abbrev pub cleared : Alu
cleared = record { sums = false; skipx = true; skipy = true; negates = false; keeps = false; clamps = false }

unfoldable pub alu_by : ℕ → ℕ → Alu
alu_by gen op = cond (forces_zero gen op) cleared (alu_of (mode op))

-- the term of x and y
abbrev pub term_by : Alu → ℕ → ℤ → ℤ → ℤ
term_by how s x y = term_of how.sums how.clamps s (cond how.skipx (pos 0) x) (cond how.skipy (pos 0) y)

-- the result, before it is kept
unfoldable pub outcome : Alu → ℤ → ℤ → ℤ
outcome how z t = cond how.clamps (clamp_signed 2 (summed how z t)) (summed how z t)
