-- The 64 bytes of X and of Y that a vector uses, as the code has them.
-- Assumes nothing.
use Rattle.std.specs.Prelude.{Bool, true, cond, List, ℕ, ◌+◌, ◌*◌, take}
use Rattle.number.specs.Bytes.{table}
use Rattle.isa.specs.Operand.{bits}
use Rattle.isa.specs.State.{x_base, y_base, z_base}
use Rattle.isa.specs.Vecint as Vecint
use Rattle.sides.specs.Sides.{lane_bytes}

-- how far the offset of an indexed load advances, by the widths of an index and of a lane
abbrev pub advance_by : Bool → Bool → ℕ
advance_by four wide = Vecint.advance true (Vecint.index_width four) (lane_bytes wide)

-- ---- what isa says of Y, or of X

abbrev pub base_of : Bool → ℕ
base_of y = cond y y_base x_base

abbrev pub indexes_of : Bool → ℕ → Bool
indexes_of y op = cond y (Vecint.indexes_y op) (Vecint.indexes_x op)

abbrev pub width_of : Bool → ℕ → ℕ
width_of y op = cond y (Vecint.widths op).y (Vecint.widths op).x

abbrev pub first_of : Bool → ℕ → ℕ
first_of y op = cond y (bits op 0 8) (bits op 10 18)

abbrev pub repeats_of : Bool → ℕ → ℕ → Bool
repeats_of y gen op = cond y (Vecint.broadcasts gen op 3 7) (Vecint.broadcasts gen op 2 6)

abbrev pub zero_of : Bool → ℕ → ℕ → Bool
zero_of y gen op = cond y (Vecint.overrides gen op 5 5) (Vecint.overrides gen op 4 4)

-- where vector v begins, and its bytes on X and Y, with a load that is indexed or isn't
abbrev pub offset_of : Bool → ℕ → ℕ → ℕ → Bool → ℕ
offset_of y gen op v indexed = first_of y op + cond (repeats_of y gen op) 0 (Vecint.advance indexed (Vecint.index_bits op) (width_of y op) * v)

abbrev pub side_of : Bool → ℕ → ℕ → List ℕ → ℕ → Bool → ℕ → ℕ
side_of y gen op xy v indexed =
    Vecint.side_byte indexed (Vecint.index_bits op) (Vecint.register op) (width_of y op) xy (base_of y) (offset_of y gen op v indexed)

-- those that vector v uses on a state, 0 where the mode leaves the side out
abbrev pub bytes_of : Bool → ℕ → ℕ → List ℕ → ℕ → Bool → List ℕ
bytes_of y gen op s v skip =
    table (λ i. cond skip 0 (cond y (Vecint.y_bytes gen op (take z_base s) v i) (Vecint.x_bytes gen op (take z_base s) v i))) 0 64
