-- vecfp (document 000) as an effect: "single and double lanes (widths 4 and 7), ALU modes 4, 10, 11, 12".
-- Assumes nothing.
use Rattle.std.specs.Prelude.{Bool, false, cond, not, ◌&&◌, ◌||◌, List, ℕ, ◌+◌, ◌*◌, ◌%◌, leb, eqb}
use Rattle.std.specs.Float.{Format, binary32, binary64}
use Rattle.number.specs.Bytes.{number}
use Rattle.float.specs.Floats.{added, multiplied, selected}
use Rattle.isa.specs.Operand.{bits, bit}
use Rattle.isa.specs.State.{x_base, y_base, lanes_of, loaded}
use Rattle.isa.specs.Effect.{Effect}
use Rattle.isa.specs.Enable.{vecint_enables}
use Rattle.isa.specs.Vecint.{mode, enable_mode, several, stride, vector_of, z_row, broadcasts, overrides_by}

-- ---- the operand's fields. Those that vecint has too are vecint's: the ALU mode, which is 0 with bit 53 set, the enable mode, several vectors
-- and their broadcast mode, the Z row.

-- "37 | Ignored"; "32 | 5 | Write enable value or broadcast lane index"
abbrev pub enable_value : ℕ → ℕ
enable_value op = bits op 32 36

-- "f32 | f32 (one row) | 4"; "f64 | f64 (one row) | 7"
abbrev pub width_number : ℕ → ℕ
width_number op = bits op 42 45

abbrev pub is_single : ℕ → Bool
is_single op = eqb (width_number op) 4

-- of the lanes of X, Y and Z; no other width is covered
unfoldable pub format_of : ℕ → Format
format_of op = cond (is_single op) binary32 binary64

-- bytes of a lane
abbrev pub width : Format → ℕ
width binary32 = 4
width binary64 = 8

abbrev pub lanes : ℕ → ℕ
lanes op = lanes_of (width (format_of op))

-- ---- which operands are covered

-- "Vecfp keeps no-ops 1 to 3 by its own mode list": 0, 1, 4, 5, 7, 10, 11 and 12, and "no-op | anything else"
abbrev pub reserved_mode : ℕ → Bool
reserved_mode m = not (leb m 1 || eqb m 4 || eqb m 5 || eqb m 7 || leb 10 m && leb m 12)

abbrev pub covered_mode : ℕ → Bool
covered_mode m = eqb m 4 || leb 10 m && leb m 12

abbrev pub covered_width : ℕ → Bool
covered_width n = eqb n 4 || eqb n 7

-- "Modes 0, 1, 5, 7, other widths, shuffles (in mode 4 too), indexed loads .. are refused 4."
unfoldable pub not_covered : ℕ → Bool
not_covered op = bit op 53 || not (covered_mode (mode op)) || not (covered_width (width_number op)) || not (eqb (bits op 27 30) 0)

-- ---- places: a row for each vector, and in it lane l

unfoldable pub writes : ℕ → ℕ → ℕ → Bool
writes gen op row = eqb (row % stride gen op) (z_row op % stride gen op)

unfoldable pub enabled : ℕ → ℕ → ℕ → Bool
enabled gen op l = several gen op || vecint_enables (lanes op) (enable_mode op) (enable_value op) l

unfoldable pub on : ℕ → ℕ → ℕ → ℕ → Bool
on gen op row l = writes gen op row && enabled gen op l

-- ---- what X and Y give

-- "override the ALU output to 0.0 (3)", "override X values to 0.0 (4)", "override Y values to 0.0 (5)"; by broadcast modes 1, 4 and 5
unfoldable pub overrides : ℕ → ℕ → ℕ → ℕ → Bool
overrides gen op value broadcast = overrides_by gen op (enable_value op) value broadcast

abbrev pub forces_zero : ℕ → ℕ → Bool
forces_zero gen op = overrides gen op 3 1

-- where the 64 bytes of X and of Y for vector v begin
unfoldable pub x_offset : ℕ → ℕ → ℕ → ℕ
x_offset gen op v = bits op 10 18 + cond (broadcasts gen op 2 6) 0 (64 * v)

unfoldable pub y_offset : ℕ → ℕ → ℕ → ℕ
y_offset gen op v = bits op 0 8 + cond (broadcasts gen op 3 7) 0 (64 * v)

unfoldable pub x_bytes : ℕ → ℕ → List ℕ → ℕ → ℕ → ℕ
x_bytes gen op xy v i = cond (overrides gen op 4 4) 0 (loaded xy x_base (x_offset gen op v) i)

unfoldable pub y_bytes : ℕ → ℕ → List ℕ → ℕ → ℕ → ℕ
y_bytes gen op xy v i = cond (overrides gen op 5 5) 0 (loaded xy y_base (y_offset gen op v) i)

-- the lane of X and of Y that lane l uses. "a vecfp broadcast lane is taken modulo the lane count"
unfoldable pub x_index : ℕ → ℕ → ℕ → ℕ
x_index gen op l = cond (broadcasts gen op 6 6) 0 l

unfoldable pub y_index : ℕ → ℕ → ℕ → ℕ
y_index gen op l =
    cond (broadcasts gen op 7 7) 0
    (cond (not (several gen op) && eqb (enable_mode op) 1) (enable_value op % lanes op) l)

-- their patterns
unfoldable pub x_of : ℕ → ℕ → List ℕ → ℕ → ℕ → ℕ
x_of gen op xy v l = number (width (format_of op)) (x_bytes gen op xy v) (width (format_of op) * x_index gen op l)

unfoldable pub y_of : ℕ → ℕ → List ℕ → ℕ → ℕ → ℕ
y_of gen op xy v l = number (width (format_of op)) (y_bytes gen op xy v) (width (format_of op) * y_index gen op l)

-- ---- the result

-- "x <= 0 ? 0 : y | 4", "x * y | 10", "z + x | 11", "z + y | 12"
unfoldable pub alu : Format → ℕ → ℕ → ℕ → ℕ → ℕ
alu f m x y z =
    cond (eqb m 4) (selected f x y)
    (cond (eqb m 10) (multiplied f x y)
    (cond (eqb m 11) (added f z x)
    (added f z y)))

unfoldable pub result : ℕ → ℕ → List ℕ → ℕ → ℕ → ℕ → ℕ
result gen op xy v l z = cond (forces_zero gen op) 0 (alu (format_of op) (mode op) (x_of gen op xy v l) (y_of gen op xy v l) z)

-- "no float step counts as adding"
abbrev pub vecfp : ℕ → ℕ → Effect
vecfp gen op = record {
  width = width (format_of op);
  on = on gen op;
  new = λ xy row l z. result gen op xy (vector_of gen op row) l z;
  adds = false;
}
