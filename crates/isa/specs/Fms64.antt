-- fms64 (document 001) as an effect, "where X or Y is skipped".
-- Assumes nothing.
use Rattle.std.specs.Prelude.{Bool, false, cond, not, ◌&&◌, List, ℕ, ◌*◌, ◌/◌, ◌%◌, eqb}
use Rattle.std.specs.Float.{binary64}
use Rattle.number.specs.Bytes.{number}
use Rattle.float.specs.Floats.{subtracted, negated}
use Rattle.isa.specs.Operand.{bits, bit}
use Rattle.isa.specs.State.{x_base, y_base, loaded}
use Rattle.isa.specs.Effect.{Effect}
use Rattle.isa.specs.Enable.{mac16_enables}

-- "63 | Vector mode (1) or matrix mode (0)"
abbrev pub vector : ℕ → Bool
vector op = bit op 63

-- "29 | Skip X input"; "28 | Skip Y input"; "27 | Skip Z input"
abbrev pub skips_x : ℕ → Bool
skips_x op = bit op 29

abbrev pub skips_y : ℕ → Bool
skips_y op = bit op 28

abbrev pub skips_z : ℕ → Bool
skips_z op = bit op 27

-- "fms64 with both inputs" is refused 4
abbrev pub not_covered : ℕ → Bool
not_covered op = not (skips_x op) && not (skips_y op)

-- "46 | X enable mode", "41 | X enable value"; "37 | Y enable mode", "32 | Y enable value": of 8 lanes
abbrev pub x_enabled : ℕ → ℕ → Bool
x_enabled op i = mac16_enables 8 (bits op 46 47) (bits op 41 45) i

abbrev pub y_enabled : ℕ → ℕ → Bool
y_enabled op j = mac16_enables 8 (bits op 37 38) (bits op 32 36) j

-- "20 | Z row"
abbrev pub z_row : ℕ → ℕ
z_row op = bits op 20 25

-- Vector: row Z row, lane i, with y[i] and X's enables alone. Matrix: row 8 j + (Z row mod 8), lane i, with y[j] and both enables.
-- Read from the Z lane: the Y lane j that comes to a row and lane i, and whether the lane is one that the step writes.
abbrev pub j_of : ℕ → ℕ → ℕ → ℕ
j_of op row i = cond (vector op) i (row / 8)

unfoldable pub on : ℕ → ℕ → ℕ → Bool
on op row i =
    cond (vector op) (eqb row (z_row op) && x_enabled op i)
    (eqb (row % 8) (z_row op % 8) && (x_enabled op i && y_enabled op (j_of op row i)))

-- "10 | X offset (in bytes)"; "0 | Y offset (in bytes)": the patterns of lane i of X and lane j of Y
unfoldable pub x_lane : ℕ → List ℕ → ℕ → ℕ
x_lane op xy i = number 8 (loaded xy x_base (bits op 10 18)) (8 * i)

unfoldable pub y_lane : ℕ → List ℕ → ℕ → ℕ
y_lane op xy j = number 8 (loaded xy y_base (bits op 0 8)) (8 * j)

-- a term less, from old Z or, Z being skipped, from nothing: its sign bit flipped
abbrev pub less_term : Bool → ℕ → ℕ → ℕ
less_term skip_z t z = cond skip_z (negated binary64 t) (subtracted binary64 z t)

-- "z-x | 0 1 0", "-x | 0 1 1", "z- y | 1 0 0", "- y | 1 0 1", "z | 1 1 0", "-0 | 1 1 1": by what is skipped of X, Y and Z
unfoldable pub result : Bool → Bool → Bool → ℕ → ℕ → ℕ → ℕ
result skip_x skip_y skip_z x y z =
    cond skip_x (cond skip_y (cond skip_z (negated binary64 0) z) (less_term skip_z y z))
    (less_term skip_z x z)

-- "no float step counts as adding"
abbrev pub fms64 : ℕ → Effect
fms64 op = record {
  width = 8;
  on = on op;
  new = λ xy row i z. result (skips_x op) (skips_y op) (skips_z op) (x_lane op xy i) (y_lane op xy (j_of op row i)) z;
  adds = false;
}
