-- A step as its vectors, and a vector as lists of its lanes' patterns.
-- Assumes nothing.
use Rattle.std.specs.Prelude.{◌≡◌, Bool, true, false, cond, not, ◌&&◌, List, Option, Some, None, ℕ, ◌+◌, ◌*◌, ◌%◌, eqb, take, get_or}
use Rattle.std.specs.Float.{Format}
use Rattle.number.specs.Bytes.{number, table}
use Rattle.isa.specs.State.{x_base, y_base, z_base, lanes_of, loaded}
use Rattle.isa.specs.Effect.{Effect}
use Rattle.isa.specs.Vecint as Vecint
use Rattle.isa.specs.Vecfp as Vecfp
use Rattle.state.specs.Rows.{one_row}
use Rattle.vecfp.specs.declared.Side.{Side}

-- the row that vector v writes
abbrev pub row_of : ℕ → ℕ → ℕ → ℕ
row_of gen op v = v * Vecint.stride gen op + Vecint.z_row op % Vecint.stride gen op

-- what vector v does on a state
abbrev pub vector_effect : ℕ → ℕ → ℕ → List ℕ → Effect
vector_effect gen op v s =
    one_row (Vecfp.width (Vecfp.format_of op)) (row_of gen op v) (Vecfp.enabled gen op) (Vecfp.result gen op (take z_base s) v)

-- ---- the lane of a side that every lane uses

abbrev pub x_lane : ℕ → ℕ → Option ℕ
x_lane gen op = cond (Vecint.broadcasts gen op 6 6) (Some 0) None

abbrev pub y_lane : ℕ → ℕ → Option ℕ
y_lane gen op =
    cond (Vecint.broadcasts gen op 7 7) (Some 0)
    (cond (not (Vecint.several gen op) && eqb (Vecint.enable_mode op) 1) (Some (Vecfp.enable_value op)) None)

-- the lane, of m, that lane l uses: its own where there is none for all
abbrev pub lane_used : ℕ → Option ℕ → ℕ → ℕ
lane_used m None l = l
lane_used m (Some lane) l = lane % m

-- ---- the sides of vector v, and the bytes of a side on X and Y

abbrev pub x_side : ℕ → ℕ → ℕ → Side
x_side gen op v = record { y = false; from = cond (Vecfp.overrides gen op 4 4) None (Some (Vecfp.x_offset gen op v)); lane = x_lane gen op }

abbrev pub y_side : ℕ → ℕ → ℕ → Side
y_side gen op v = record { y = true; from = cond (Vecfp.overrides gen op 5 5) None (Some (Vecfp.y_offset gen op v)); lane = y_lane gen op }

-- the bytes from an offset on, which are 0 where there is none
abbrev pub byte_from : List ℕ → ℕ → Option ℕ → ℕ → ℕ
byte_from xy base None i = 0
byte_from xy base (Some from) i = loaded xy base from i

abbrev pub side_byte : List ℕ → Side → ℕ → ℕ
side_byte xy side i = byte_from xy (cond side.y y_base x_base) side.from i

-- ---- lists of patterns

abbrev pub lanes_in : Format → ℕ
lanes_in f = lanes_of (Vecfp.width f)

-- n numbers of b bytes have the format's width, and fill a row
abbrev pub Fills : Format → ℕ → ℕ → Type 0
Fills f b n = (b ≡ Vecfp.width f) × (n ≡ lanes_in f)

-- of 64 bytes, and of a side by the lane that each lane uses
abbrev pub words_of : Format → (ℕ → ℕ) → List ℕ
words_of f bytes = table (λ l. number (Vecfp.width f) bytes (Vecfp.width f * l)) 0 (lanes_in f)

abbrev pub side_lanes : Format → List ℕ → Side → List ℕ
side_lanes f xy side =
    table (λ l. number (Vecfp.width f) (side_byte xy side) (Vecfp.width f * lane_used (lanes_in f) side.lane l)) 0 (lanes_in f)

-- what is made of those of X, Y and Z in a mode, and by an operand
abbrev pub alu_lanes : Format → ℕ → List ℕ → List ℕ → List ℕ → List ℕ
alu_lanes f mode x y z = table (λ l. Vecfp.alu f mode (get_or x l 0) (get_or y l 0) (get_or z l 0)) 0 (lanes_in f)

abbrev pub result_lanes : Format → ℕ → ℕ → List ℕ → List ℕ → List ℕ → List ℕ
result_lanes f gen op x y z =
    table (λ l. cond (Vecfp.forces_zero gen op) 0 (Vecfp.alu f (Vecint.mode op) (get_or x l 0) (get_or y l 0) (get_or z l 0))) 0 (lanes_in f)

-- the enabled lanes of a vector
abbrev pub vector_mask : Format → ℕ → ℕ → List Bool
vector_mask f gen op = table (Vecfp.enabled gen op) 0 (lanes_in f)
