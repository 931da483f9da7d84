-- The lanes of a register.
-- Assumes nothing.
use Rattle.std.specs.Prelude.{cond, ℕ, eqb}

-- in 64 bytes, of 1, 2 or 4 bytes each, by the branches of the code
abbrev pub lanes_by : ℕ → ℕ
lanes_by b = cond (eqb b 1) 64 (cond (eqb b 2) 32 16)
