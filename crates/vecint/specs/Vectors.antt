-- A step as its vectors, each with the rows that its lanes are dealt to.
-- Assumes nothing.
use Rattle.std.specs.Prelude.{◌≡◌, ℕ, ◌+◌, ◌*◌, ◌/◌, ◌%◌, ◌<◌, Bool, cond, ◌||◌, List, take, ℤ, pos, ◌==◌, slice_index_or, Option, Some, None}
use Rattle.number.specs.Bytes.{span, table}
use Rattle.number.specs.Integers.{wrap, kept}
use Rattle.isa.specs.Operand.{bit}
use Rattle.isa.specs.State.{z_base, lanes_of}
use Rattle.isa.specs.Effect.{Effect}
use Rattle.isa.specs.Vecint as Vecint
use Rattle.sides.specs.declared.SideForm.{SideForm}
use Rattle.reduction.specs.declared.Range.{Range}
use Rattle.reduction.specs.declared.Reduce.{Reduce}
use Rattle.state.specs.Rows.{dealt}
use Rattle.vecint.specs.declared.Alu.{Alu}
use Rattle.vecint.specs.Modes.{term_by}

-- the first of the rows that vector v writes
abbrev pub first_row : ℕ → ℕ → ℕ → ℕ
first_row gen op v = v * Vecint.stride gen op + Vecint.z_row op % Vecint.stride gen op / Vecint.rows_each op * Vecint.rows_each op

-- the lanes of a vector
abbrev pub vector_lanes : ℕ → ℕ
vector_lanes op = Vecint.rows_each op * lanes_of (Vecint.z_width op)

-- its enabled lanes, as a list
abbrev pub vecint_mask : ℕ → ℕ → List Bool
vecint_mask gen op = table (λ k. Vecint.several gen op || Vecint.masked op k) 0 64

-- what vector v does on a state
abbrev pub vector_effect : ℕ → ℕ → ℕ → List ℕ → Effect
vector_effect gen op v s =
    dealt (Vecint.z_width op) (first_row gen op v) (Vecint.rows_each op)
    (λ k. Vecint.several gen op || Vecint.masked op k)
    (λ k z. wrap (span (Vecint.z_width op)) (Vecint.result gen op (take z_base s) v k z))

-- the lane of X that is used for every lane, if one is; the same for Y
abbrev pub fixed_x : ℕ → ℕ → Option ℕ
fixed_x gen op = cond (Vecint.broadcasts gen op 6 6) (Some 0) None

abbrev pub fixed_y : ℕ → ℕ → Option ℕ
fixed_y gen op =
    cond (Vecint.several gen op) (cond (Vecint.broadcast_mode op == 7) (Some 0) None) (cond (Vecint.enable_mode op == 1) (Some (Vecint.enable_value op)) None)

-- how the lanes of X are read; the same for Y
abbrev pub x_side_of : ℕ → ℕ → SideForm
x_side_of gen op = record {
  wide = ((Vecint.widths op).x == 2);
  sign = bit op 63;
  fixed = fixed_x gen op;
  halved = ((Vecint.widths op).y == 1);
}

abbrev pub y_side_of : ℕ → ℕ → SideForm
y_side_of gen op = record {
  wide = ((Vecint.widths op).y == 2);
  sign = bit op 26;
  fixed = fixed_y gen op;
  halved = ((Vecint.widths op).x == 1);
}

-- a list that has the terms of vector v, each kept in 4 bytes
abbrev pub HoldsTerms : ℕ → ℕ → List ℕ → ℕ → Alu → List ℤ → Type 0
HoldsTerms gen op s v how ts =
    (k : ℕ) → k < vector_lanes op
    → slice_index_or ts k (pos 0) ≡ kept 4 (term_by how (Vecint.shift op) (Vecint.x_of gen op (take z_base s) v k) (Vecint.y_of gen op (take z_base s) v k))

-- what mode 4 does by an operand
abbrev pub reduce_by : ℕ → ℕ → Reduce
reduce_by gen op = record {
  clears = Vecint.forces_zero gen op;
  sign = bit op 63;
  rounds = bit op 29;
  shift = Vecint.shift op;
  clamp = cond (bit op 30) (Some record { below = bit op 26; width = (Vecint.reduction op).saturation }) None;
}
