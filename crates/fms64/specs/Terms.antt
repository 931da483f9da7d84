-- fms64 on lists: the terms of the lanes, and what is done with them as effects.
-- Assumes nothing.
use Rattle.std.specs.Prelude.{Bool, false, cond, ◌&&◌, List, ℕ, ◌/◌, ◌%◌, eqb, get_or, replicate}
use Rattle.number.specs.Bytes.{table}
use Rattle.isa.specs.Effect.{Effect}
use Rattle.isa.specs.Fms64 as Fms64
use Rattle.state.specs.Rows.{one_row}

-- by what is skipped: x, or y where X is skipped, or 0 where both are
abbrev pub term : Bool → Bool → ℕ → ℕ → ℕ
term skip_x skip_y x y = cond skip_x (cond skip_y 0 y) x

-- the terms of 8 lanes, each of its own x and y
unfoldable pub terms_of : ℕ → List ℕ → List ℕ
terms_of op s = table (λ l. term (Fms64.skips_x op) (Fms64.skips_y op) (Fms64.x_lane op s l) (Fms64.y_lane op s l)) 0 8

-- the terms of a row that comes to Y lane j: term j where X is skipped, and elsewhere each lane's own
abbrev pub row_terms : Bool → List ℕ → ℕ → List ℕ
row_terms skip_x ts j = cond skip_x (replicate 8 (get_or ts j 0)) ts

-- z stays: X and Y are skipped, and Z is not
abbrev pub keeps : Bool → Bool → Bool → Bool
keeps skip_x skip_y skip_z = cond skip_z false (cond skip_y skip_x false)

abbrev pub keeps_z : ℕ → Bool
keeps_z op = keeps (Fms64.skips_x op) (Fms64.skips_y op) (Fms64.skips_z op)

-- a row: each lane less its term
abbrev pub less_row : ℕ → List ℕ → List Bool → Bool → Effect
less_row row ts on skip_z = one_row 8 row (λ l. get_or on l false) (λ l z. Fms64.less_term skip_z (get_or ts l 0) z)

-- rows 8 j + p, for the enabled lanes j of Y: less term j where X is skipped, and elsewhere each lane less its own
abbrev pub less_matrix : ℕ → List ℕ → Bool → List Bool → List Bool → Bool → Effect
less_matrix p ts skip_x on yon skip_z = record {
  width = 8;
  on = λ r l. eqb (r % 8) p && (get_or on l false && get_or yon (r / 8) false);
  new = λ xy r l z. Fms64.less_term skip_z (get_or ts (cond skip_x (r / 8) l) 0) z;
  adds = false;
}
