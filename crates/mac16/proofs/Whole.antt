-- A whole step of each form, from the parts that the code has read.
-- Assumes nothing.
use mathlib.Core.Path.{◌≡◌, sym, ap, ◌∙◌}
use mathlib.Core.Bool.{Bool, false, cond, not, ◌&&◌, ◌||◌}
use mathlib.Core.List.{List}
use Prim.Native.Nat.{ℕ, ◌*◌, ◌/◌, ◌%◌, ◌<◌}
use native.Mathlib.Nat.{mod-eq_of_lt}
use native.Mathlib.Omega.{arith}
use lib.Dec.{eqb}
use lib.IntN.{ℤ}
use lib.ListN.{length, get_or}
use borrow.Author.Tests.{eq-eqb}
use Rattle.number.proofs.Tests.{pick_true}
use Rattle.isa.specs.Operand.{bits, bit}
use Rattle.isa.specs.Effect.{applied, bytes_on, lanes_on, count}
use Rattle.isa.specs.Mac16 as Mac16
use Rattle.isa.specs.Mac16.{Form, vector, matrix16, matrix32, form_of}
use Rattle.isa.proofs.Lawful.{mac16-fills}
use Rattle.isa.proofs.Count.{bytes_of}
use Rattle.state.specs.Rows.{run_sum}
use Rattle.state.proofs.Holds.{Bytes}
use Rattle.mac16.specs.Products.{row_terms, row_on, products, x_mask, y_mask, x_factors, y_factors, products_of}
use Rattle.mac16.proofs.Rows.{vector_row}
use Rattle.masks.specs.Mask.{mask_of}
use Rattle.masks.proofs.Mask.{counts_rule}
use Rattle.mac16.proofs.Counts.{count-vector}
use Rattle.mac16.proofs.Meant.{meant}

-- matrix 16 has Z row modulo 2, and matrix 32 none of it
row-modulo : (p z : ℕ) → p ≡ z % 2 → row_on matrix16 p ≡ row_on matrix16 z
unfolding row_on
row-modulo p z e =
    let same : p % 2 ≡ z % 2 = omega arith in
    λ t yon row. eqb (row % 2) (same t) && get_or yon (row / 2) false

module _ (op : ℕ) (s t : List ℕ) (on : List Bool) (xs ys : List ℤ) (sh : ℕ) (keep : Bool)
    (eo : on ≡ x_mask op) (ex : xs ≡ x_factors op s on) (ey : ys ≡ y_factors op s) (es : sh ≡ bits op 55 59) (small : sh < 32)
    (ek : keep ≡ not (bit op 27)) where
  shift : sh % 32 ≡ bits op 55 59
  shift = mod-eq_of_lt small ∙ es

  factors : xs ≡ x_factors op s (x_mask op)
  factors = ex ∙ ap (x_factors op s) eo

  pub vector-is : (z : ℕ) → length s ≡ 5120 → Bytes s → z ≡ bits op 20 25
      → t ≡ applied (run_sum 2 z 1 (row_terms 2 32 (sh % 32) xs ys) on keep) s → t ≡ applied (products_of vector op s) s
  vector-is z size bytes ez et =
      et
      ∙ (λ i. applied (run_sum 2 (ez i) 1 (row_terms 2 32 (shift i) (factors i) (ey i)) (eo i) (ek i)) s)
      ∙ vector_row (bits op 20 25) (x_factors op s (x_mask op)) (x_mask op) (y_factors op s) (y_mask op) (bits op 55 59) (not (bit op 27)) s size bytes

  module _ (yon : List Bool) (en : yon ≡ y_mask op) where
    pub matrix16-is : (p z : ℕ) → z ≡ bits op 20 25 → p ≡ z % 2
        → t ≡ applied (products matrix16 p xs on ys yon (sh % 32) keep) s → t ≡ applied (products_of matrix16 op s) s
    matrix16-is p z ez ep et =
        et
        ∙ (λ i. applied (products matrix16 p (factors i) (eo i) (ey i) (en i) (shift i) (ek i)) s)
        ∙ (λ i. applied (record {
          width = 2;
          on = λ row l. row-modulo p (bits op 20 25) (ep ∙ ap (λ (n : ℕ). n % 2) ez) i (y_mask op) row && (not (bit op 27) || get_or (x_mask op) l false);
          new = (products matrix16 p (x_factors op s (x_mask op)) (x_mask op) (y_factors op s) (y_mask op) (bits op 55 59) (not (bit op 27))).new;
          adds = not (bit op 27);
        }) s)

    pub matrix32-is : t ≡ applied (products matrix32 0 xs on ys yon (sh % 32) keep) s → t ≡ applied (products_of matrix32 op s) s
    unfolding row_on
    matrix32-is et = et ∙ (λ i. applied (products matrix32 (Mac16.z_row op) (factors i) (eo i) (ey i) (en i) (shift i) (ek i)) s)

-- ---- counts

-- the bytes of a form's lanes
form_bytes : (form : Form) (op n : ℕ) → n ≡ lanes_on (Mac16.effect form op) → n * Mac16.z_width form ≡ bytes_on (Mac16.effect form op)
form_bytes form op = bytes_of (Mac16.effect form op) (mac16-fills form)

-- as the code counts, by the masks
module _ (op x r : ℕ) (ex : x ≡ mask_of (Mac16.x_enabled op) 64) where
  x-lanes : count (bit x) 32 ≡ count (Mac16.x_enabled op) 32
  x-lanes = counts_rule (Mac16.x_enabled op) 64 32 x (omega arith) ex

  pub vector-count : r ≡ count (bit x) 32 → r * 2 ≡ bytes_on (Mac16.effect vector op)
  vector-count er = form_bytes vector op r (er ∙ x-lanes ∙ sym (count-vector op))

  -- of a matrix
  pub matrix-count : (y : ℕ) → y ≡ mask_of (Mac16.y_enabled op) 64
      → (form : Form) → lanes_on (Mac16.effect form op) ≡ count (Mac16.x_enabled op) 32 * count (Mac16.y_enabled op) 32
      → r ≡ count (bit x) 32 * count (bit y) 32 * Mac16.z_width form → r ≡ bytes_on (Mac16.effect form op)
  matrix-count y ey form lanes er =
      let both : count (bit x) 32 * count (bit y) 32 ≡ count (Mac16.x_enabled op) 32 * count (Mac16.y_enabled op) 32 =
      λ t. x-lanes t * counts_rule (Mac16.y_enabled op) 64 32 y (omega arith) ey t
      in
      er ∙ form_bytes form op (count (bit x) 32 * count (bit y) 32) (both ∙ sym lanes)

-- ---- the step, by the form

module _ (op : ℕ) (s t : List ℕ) (r : ℕ) (size : length s ≡ 5120) (bytes : Bytes s) where
  pub by_form : (w : List ℕ) → w ≡ s → (form : Form) → form_of op ≡ form → (t ≡ applied (products_of form op w) w) × (r ≡ bytes_on (Mac16.effect form op))
      → (t ≡ cond (eqb (length s) 5120) (applied (Mac16.mac16 op) s) s) × (r ≡ cond (eqb (length s) 5120) (bytes_on (Mac16.mac16 op)) 0)
  by_form w same form e h = (
    h.0
        ∙ ap (λ (x : List ℕ). applied (products_of form op x) x) same
        ∙ meant op s bytes form size
        ∙ ap (λ (f : Form). applied (Mac16.effect f op) s) (sym e)
        ∙ sym (pick_true _ _ (eq-eqb (length s) 5120 size)),
    h.1 ∙ ap (λ (f : Form). bytes_on (Mac16.effect f op)) (sym e) ∙ sym (pick_true _ _ (eq-eqb (length s) 5120 size)),
  )
