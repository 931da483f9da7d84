-- What the code has of a step: the factors of X and Y as lists, the lanes of a row as products of them, and their effect.
-- Assumes nothing.
use Rattle.std.specs.Prelude.{Bool, false, cond, not, ◌&&◌, ◌||◌, List, ℕ, ◌+◌, ◌*◌, ◌/◌, ◌%◌, eqb, ℤ, pos, ◌*ℤ◌, get_or}
use Rattle.number.specs.Bytes.{span, byte_at, table}
use Rattle.number.specs.Integers.{wrap, ◌≫◌}
use Rattle.isa.specs.Operand.{bits, bit}
use Rattle.isa.specs.State.{x_base, y_base, loaded}
use Rattle.isa.specs.Effect.{Effect}
use Rattle.isa.specs.Mac16 as Mac16
use Rattle.isa.specs.Mac16.{Form, vector, matrix16, matrix32, z_width, i_of, j_of}
use Rattle.state.specs.Rows.{lane_sum}

-- A side's number: the lane, or another number where the side is skipped.
unfoldable pub side : Bool → Bool → ℤ → List ℕ → ℕ → ℤ
side i8 skip other bytes i = cond skip other (Mac16.lane i8 (byte_at bytes) i)

-- 0 where the lane is off, so that nothing is added there
unfoldable pub masked : List Bool → List ℤ → List ℤ
masked on xs = table (λ i. cond (get_or on i false) (get_or xs i (pos 0)) (pos 0)) 0 32

-- Where X is skipped its factor is 1, so that y is left; where both are, 0.
abbrev pub other_than_x : ℕ → ℤ
other_than_x op = cond (bit op 28) (pos 0) (pos 1)

-- what a lane of b bytes adds: a product, shifted and kept
unfoldable pub term : ℕ → ℕ → ℤ → ℤ → ℕ
term b s x y = wrap (span b) ((x *ℤ y) ≫ s)

-- the terms of a row of m lanes
unfoldable pub row_terms : ℕ → ℕ → ℕ → List ℤ → List ℤ → List ℕ
row_terms b m s xs ys = table (λ i. term b s (get_or xs i (pos 0)) (get_or ys i (pos 0))) 0 m

-- the even elements of a list of 32, and then the odd ones
unfoldable pub split {ℓ} : {A : Type ℓ} → A → List A → List A
split d l = table (λ k. get_or l (2 * (k % 16) + k / 16) d) 0 32

-- the rows that a form writes
unfoldable pub row_on : Form → ℕ → List Bool → ℕ → Bool
row_on vector z_row on_y row = eqb row z_row
row_on matrix16 z_row on_y row = eqb (row % 2) (z_row % 2) && get_or on_y (row / 2) false
row_on matrix32 z_row on_y row = get_or on_y (row / 2) false

-- the effect of a form on these lists
abbrev pub products : Form → ℕ → List ℤ → List Bool → List ℤ → List Bool → ℕ → Bool → Effect
products form z_row xs on_x ys on_y s keep = record {
  width = z_width form;
  on = λ row l. row_on form z_row on_y row && (keep || get_or on_x (i_of form row l) false);
  new = λ xy row l z.
      lane_sum (z_width form) z (term (z_width form) s (get_or xs (i_of form row l) (pos 0)) (get_or ys (j_of form row l) (pos 0)))
      (get_or on_x (i_of form row l) false) keep;
  adds = keep;
}

-- ---- of an operand, on a state

-- the 64 bytes loaded, as a list
abbrev pub loaded_bytes : List ℕ → ℕ → ℕ → List ℕ
loaded_bytes s base offset = table (loaded s base offset) 0 64

-- the masks and the factors
abbrev pub x_mask : ℕ → List Bool
x_mask op = table (Mac16.x_enabled op) 0 32

abbrev pub y_mask : ℕ → List Bool
y_mask op = table (Mac16.y_enabled op) 0 32

unfoldable pub x_side : ℕ → List ℕ → List ℤ
x_side op s = table (side (bit op 61) (bit op 29) (other_than_x op) (loaded_bytes s x_base (bits op 10 18))) 0 32

abbrev pub x_factors : ℕ → List ℕ → List Bool → List ℤ
x_factors op s on = masked on (x_side op s)

unfoldable pub y_factors : ℕ → List ℕ → List ℤ
y_factors op s = table (side (bit op 60) (bit op 28) (pos 1) (loaded_bytes s y_base (bits op 0 8))) 0 32

-- the effect of a form, with an operand's lists
abbrev pub products_of : Form → ℕ → List ℕ → Effect
products_of form op s = products form (Mac16.z_row op) (x_factors op s (x_mask op)) (x_mask op) (y_factors op s) (y_mask op) (bits op 55 59) (not (bit op 27))
