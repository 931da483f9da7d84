-- A whole step, from the parts that the code has read, and its count.
-- Assumes nothing.
use mathlib.Core.Path.{◌≡◌, refl, sym, ap, ◌∙◌}
use mathlib.Core.Bool.{Bool, true, false, cond, ◌&&◌}
use mathlib.Core.List.{List}
use Prim.Native.Nat.{ℕ, ◌*◌, ◌/◌, ◌%◌}
use native.Mathlib.Omega.{arith}
use lib.Dec.{eqb}
use lib.ListN.{length}
use borrow.Author.Tests.{eq-eqb}
use Rattle.number.specs.Bytes.{table}
use Rattle.number.proofs.Tests.{pick_true, pick_false}
use Rattle.operand.proofs.Fields.{bits-lt}
use Rattle.isa.specs.Operand.{bit}
use Rattle.isa.specs.Effect.{sum, applied, bytes_on, lanes_on, count}
use Rattle.isa.specs.Fms64 as Fms64
use Rattle.isa.specs.Fms64.{vector, skips_x, skips_z, x_enabled, y_enabled, z_row}
use Rattle.isa.proofs.Count.{bytes_of}
use Rattle.state.proofs.Holds.{Bytes}
use Rattle.state.proofs.Counts.{one-row, row-of-each}
use Rattle.masks.specs.Mask.{mask_of}
use Rattle.masks.proofs.Mask.{counts_rule}
use Rattle.masks.proofs.Bools.{lanes-of_rule}
use Rattle.fms64.specs.Terms.{terms_of, keeps_z, less_row, less_matrix}
use Rattle.fms64.proofs.Meant.{vector-meant, matrix-meant}

-- ---- what the forms leave

module _ (op : ℕ) (s t : List ℕ) (size : length s ≡ 5120) (small : Bytes s) (keep : Bool) (ek : keep ≡ keeps_z op) (left : keep ≡ false)
    (on : List Bool) (eo : on ≡ table (x_enabled op) 0 8) (ts : List ℕ) (et : ts ≡ terms_of op s)
    (skip_z : Bool) (ez : skip_z ≡ skips_z op) (row : ℕ) (er : row ≡ z_row op) where
  pub vector-is : vector op ≡ true → t ≡ applied (less_row row ts on skip_z) s → t ≡ applied (Fms64.fms64 op) s
  vector-is v e = e ∙ (λ i. applied (less_row (er i) (et i) on (ez i)) s) ∙ vector-meant op s size small (sym ek ∙ left) on eo v

  pub matrix-is : vector op ≡ false → (y : ℕ) → y ≡ mask_of (y_enabled op) 64 → (yon : List Bool) → yon ≡ table (bit y) 0 8 → (skip_x : Bool) →
      skip_x ≡ skips_x op
      → t ≡ applied (less_matrix (row % 8) ts skip_x on yon skip_z) s → t ≡ applied (Fms64.fms64 op) s
  matrix-is v y ey yon eyon skip_x esx e =
      e ∙ (λ i. applied (less_matrix (er i % 8) (et i) (esx i) on yon (ez i)) s)
      ∙ matrix-meant op s size small (sym ek ∙ left) on eo v yon (lanes-of_rule (y_enabled op) 64 8 y yon (omega arith) ey eyon)

-- ---- counts

module _ (op : ℕ) where
  -- whether the lane is one that each form writes
  abbrev of_vector : ℕ → ℕ → Bool
  of_vector row l = eqb row (z_row op) && x_enabled op l

  abbrev of_matrix : ℕ → ℕ → ℕ → Bool
  of_matrix row l j = eqb (row % 8) (z_row op % 8) && (x_enabled op l && y_enabled op j)

  vector-lanes : vector op ≡ true → lanes_on (Fms64.fms64 op) ≡ count (x_enabled op) 8
  unfolding lanes_on Fms64.on
  vector-lanes v =
      (λ i. sum (λ row. count (λ l. pick_true (of_vector row l) (of_matrix row l (Fms64.j_of op row l)) v i) 8) 64)
      ∙ one-row (x_enabled op) 8 (z_row op) 64 (bits-lt op 20 25)

  matrix-lanes : vector op ≡ false → lanes_on (Fms64.fms64 op) ≡ count (x_enabled op) 8 * count (y_enabled op) 8
  unfolding lanes_on Fms64.on
  matrix-lanes v =
      (λ i. sum (λ row. count (λ l. pick_false (of_vector row l) (of_matrix row l (pick_false l (row / 8) v i)) v i) 8) 64)
      ∙ row-of-each (x_enabled op) 8 (y_enabled op) 8 8 (z_row op % 8) (omega arith)

  module _ (x n : ℕ) (ex : x ≡ mask_of (x_enabled op) 64) (en : n ≡ count (bit x) 8) where
    x-lanes : n ≡ count (x_enabled op) 8
    x-lanes = en ∙ counts_rule (x_enabled op) 64 8 x (omega arith) ex

    pub vector-count : vector op ≡ true → n * 8 ≡ bytes_on (Fms64.fms64 op)
    vector-count v = bytes_of (Fms64.fms64 op) (8, refl) n (x-lanes ∙ sym (vector-lanes v))

    pub matrix-count : vector op ≡ false → (y k : ℕ) → y ≡ mask_of (y_enabled op) 64 → k ≡ count (bit y) 8 → n * k * 8 ≡ bytes_on (Fms64.fms64 op)
    matrix-count v y k ey ec =
        let y-lanes : k ≡ count (y_enabled op) 8 = ec ∙ counts_rule (y_enabled op) 64 8 y (omega arith) ey in
        bytes_of (Fms64.fms64 op) (8, refl) (n * k) ((λ i. x-lanes i * y-lanes i) ∙ sym (matrix-lanes v))

-- ---- the step

pub on-registers : (op : ℕ) (s t : List ℕ) (r : ℕ) → length s ≡ 5120 → (w : List ℕ) → w ≡ s
    → (t ≡ applied (Fms64.fms64 op) w) × (r ≡ bytes_on (Fms64.fms64 op))
    → (t ≡ cond (eqb (length s) 5120) (applied (Fms64.fms64 op) s) s) × (r ≡ cond (eqb (length s) 5120) (bytes_on (Fms64.fms64 op)) 0)
on-registers op s t r size w same h = (
  h.0 ∙ ap (applied (Fms64.fms64 op)) same ∙ sym (pick_true _ _ (eq-eqb (length s) 5120 size)),
  h.1 ∙ sym (pick_true _ _ (eq-eqb (length s) 5120 size)),
)
