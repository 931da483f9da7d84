-- What the code does with the lanes of a vector is what is meant by the vector. Over the format.
-- Assumes nothing.
use mathlib.Core.Path.{◌≡◌, refl, sym, ap, ◌∙◌}
use mathlib.Core.Bool.{Bool, false, cond}
use mathlib.Core.List.{List}
use Prim.Native.Nat.{ℕ, ◌+◌, ◌*◌, ◌/◌, ◌%◌, ◌<◌}
use native.Mathlib.Nat.{mod-eq_of_lt}
use native.Mathlib.Omega.{arith}
use lib.Dec.{eqb}
use lib.Ieee.{Format}
use lib.ListN.{length, take, get_or}
use borrow.Author.Tests.{eq-eqb}
use Rattle.number.specs.Bytes.{byte_at, number, table}
use Rattle.number.proofs.Bytes.{table_same}
use Rattle.number.proofs.Tests.{pick_true}
use Rattle.isa.specs.State.{x_base, y_base, start}
use Rattle.isa.specs.Effect.{applied}
use Rattle.isa.specs.Vecint as Vecint
use Rattle.isa.specs.Vecfp as Vecfp
use Rattle.isa.specs.Vecfp.{width}
use Rattle.operand.proofs.Rows.{given_below, next, vector-in-z, few-vectors}
use Rattle.state.specs.Rows.{one_row}
use Rattle.state.proofs.Holds.{Bytes}
use Rattle.state.proofs.Numbers.{row_same, row_made}
use Rattle.vecfp.specs.declared.Side.{Side}
use Rattle.vecfp.specs.Vectors.{Fills, row_of, x_side, y_side, lane_used, lanes_in, side_byte, side_lanes, result_lanes, vector_mask, vector_effect}
use Rattle.vecfp.proofs.Sides.{fits, at, side-at, overridden, x-used, y-used}

-- the row, in Z
pub row-in_z : (gen op v : ℕ) → v < 64 / Vecint.stride gen op → row_of gen op v < 64
row-in_z gen op v h = omega (arith, given_below gen op v, next gen op v, vector-in-z gen op v h)

module _ (f : Format) (gen op v : ℕ) (s : List ℕ) (ef : Vecfp.format_of op ≡ f) where
  abbrev xy : List ℕ
  xy = take 1024 s

  -- the lanes of X and of Y, by the lane that each uses
  module _ (lanes : List ℕ) (side : Side) (el : lanes ≡ side_lanes f s side) (l : ℕ) (hl : l < lanes_in f) where
    side-lane : (index : ℕ) → lane_used (lanes_in f) side.lane l ≡ index
        → get_or lanes l 0 ≡ number (width (Vecfp.format_of op)) (side_byte xy side) (width (Vecfp.format_of op) * index)
    side-lane index used =
        side-at f s side lanes el l hl ∙ (λ i. number (width (sym ef i)) (side_byte xy side) (width (sym ef i) * used i))

    x-lane : side ≡ x_side gen op v → get_or lanes l 0 ≡ Vecfp.x_of gen op xy v l
    unfolding Vecfp.x_of Vecfp.x_bytes
    x-lane e =
        side-lane (Vecfp.x_index gen op l) (ap (λ (x : Side). lane_used (lanes_in f) x.lane l) e ∙ x-used gen op (lanes_in f) l)
        ∙ ap (λ (x : Side). number (width (Vecfp.format_of op)) (side_byte xy x) (width (Vecfp.format_of op) * Vecfp.x_index gen op l)) e
        ∙ (λ i.
        number (width (Vecfp.format_of op)) (λ k. overridden xy x_base (Vecfp.overrides gen op 4 4) (Vecfp.x_offset gen op v) k i)
        (width (Vecfp.format_of op) * Vecfp.x_index gen op l))

    y-lane : side ≡ y_side gen op v → get_or lanes l 0 ≡ Vecfp.y_of gen op xy v l
    unfolding Vecfp.y_of Vecfp.y_bytes
    y-lane e =
        side-lane (Vecfp.y_index gen op l) (ap (λ (x : Side). lane_used (lanes_in f) x.lane l) e ∙ y-used gen op f ef l)
        ∙ ap (λ (x : Side). number (width (Vecfp.format_of op)) (side_byte xy x) (width (Vecfp.format_of op) * Vecfp.y_index gen op l)) e
        ∙ (λ i.
        number (width (Vecfp.format_of op)) (λ k. overridden xy y_base (Vecfp.overrides gen op 5 5) (Vecfp.y_offset gen op v) k i)
        (width (Vecfp.format_of op) * Vecfp.y_index gen op l))

  -- what the code has of a vector: its sides, their lanes, and what was made of them and of the row's
  pub record Made (sx sy : Side) (x y z out : List ℕ) : Type 0 where
    pub x-side : sx ≡ x_side gen op v
    pub y-side : sy ≡ y_side gen op v
    pub x-lanes : x ≡ side_lanes f s sx
    pub y-lanes : y ≡ side_lanes f s sy
    pub results : out ≡ result_lanes f gen op x y z

  results-meant : {sx sy : Side} {x y z out : List ℕ} → Made sx sy x y z out → out ≡ table (λ l. Vecfp.result gen op xy v l (get_or z l 0)) 0 (lanes_in f)
  unfolding Vecfp.result
  results-meant {sx} {sy} {x} {y} {z} {out} made =
      made.results
      ∙ table_same _ _ (lanes_in f)
      (λ l hl. λ i.
      cond (Vecfp.forces_zero gen op) 0
      (Vecfp.alu (sym ef i) (Vecint.mode op)
      (x-lane x sx made.x-lanes l hl made.x-side i)
      (y-lane y sy made.y-lanes l hl made.y-side i)
      (get_or z l 0)))

  module _ (size : length s ≡ 5120) (small : Bytes s) (hv : v < 64 / Vecint.stride gen op) {on : List Bool} (eo : on ≡ vector_mask f gen op) where
    pub vector-meant : {sx sy : Side} {x y z out t : List ℕ} → Made sx sy x y z out
        → {row : ℕ} → row ≡ v % 4 * Vecint.stride gen op + Vecint.z_row op % Vecint.stride gen op
        → {b n : ℕ} → Fills f b n
        → z ≡ table (λ l. number b (byte_at s) (start b (row % 64) l)) 0 n
        → t ≡ cond (eqb (length s) 5120) (applied (one_row b row (λ l. get_or on l false) (λ l z. get_or out l 0)) s) s
        → t ≡ applied (vector_effect gen op v s) s
    vector-meant {z = z} {out = out} made {row} er fills ez et =
        et
        ∙ (λ i. cond (eqb (length s) 5120) (applied (one_row (fills.0 i) row (λ l. get_or on l false) (λ l z. get_or out l 0)) s) s)
        ∙ pick_true _ _ (eq-eqb (length s) 5120 size)
        ∙ row_same (width f) (lanes_in f) (fits f) row s size small (λ l. get_or on l false) (Vecfp.enabled gen op) (λ l z. get_or out l 0)
        (λ l z. get_or out l 0)
        enabled (λ l h. refl)
        ∙ row_made (width f) (lanes_in f) (fits f) row s size small (Vecfp.enabled gen op) (Vecfp.result gen op xy v) z out inside
        (ez ∙ (λ i. table (λ l. number (fills.0 i) (byte_at s) (start (fills.0 i) (row % 64) l)) 0 (fills.1 i))) (results-meant made)
        ∙ (λ i. applied (one_row (width (sym ef i)) (place i) (Vecfp.enabled gen op) (Vecfp.result gen op xy v)) s)
      where
        place : row ≡ row_of gen op v
        place = er ∙ ap (λ (n : ℕ). n * Vecint.stride gen op + Vecint.z_row op % Vecint.stride gen op) (mod-eq_of_lt (few-vectors gen op v hv))

        inside : row < 64
        inside = omega (arith, place, row-in_z gen op v hv)

        enabled : (l : ℕ) → l < lanes_in f → get_or on l false ≡ Vecfp.enabled gen op l
        enabled l h = ap (λ (x : List Bool). get_or x l false) eo ∙ at false (Vecfp.enabled gen op) (lanes_in f) l h
