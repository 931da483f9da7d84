-- What the code does with lists is what fms64 means.
-- Assumes nothing.
use mathlib.Core.Path.{◌≡◌, refl, sym, ap, ap₂, ◌∙◌}
use mathlib.Core.Bool.{Bool, true, false, cond, ◌&&◌}
use mathlib.Core.List.{List}
use mathlib.Core.Logic.{⊎_elim}
use Prim.Native.Nat.{ℕ, ◌+◌, ◌*◌, ◌/◌, ◌%◌, ◌≤◌, ◌<◌}
use native.Mathlib.Nat.{zero-add, mod-eq_of_lt}
use native.Mathlib.Omega.{arith}
use lib.Dec.{eqb}
use lib.ListN.{length, take, get_or, replicate}
use lib.Seq.{get_or-take}
use borrow.Author.Tests.{eq-eqb, ne_eqb}
use Rattle.number.specs.Bytes.{span, byte_at, number, table}
use Rattle.number.proofs.Bytes.{get_d-table, number_same}
use Rattle.number.proofs.Tests.{true_false, pick_true, pick_false, lt_or_le}
use Rattle.isa.specs.Operand.{bits}
use Rattle.isa.specs.State.{x_base, y_base, start, loaded}
use Rattle.isa.specs.Effect.{new_lane, applied}
use Rattle.isa.specs.Fms64 as Fms64
use Rattle.isa.specs.Fms64.{vector, skips_x, skips_y, skips_z, x_enabled, y_enabled, z_row, x_lane, y_lane, less_term, result}
use Rattle.state.specs.Rows.{among}
use Rattle.state.proofs.Holds.{Bytes, lane_after, holds-start, holds-end}
use Rattle.state.proofs.RunLoop.{among-yes, among-before, among-after, number_lt}
use Rattle.state.proofs.RowsLoop.{same-lanes}
use Rattle.fms64.specs.Terms.{term, terms_of, keeps, keeps_z, less_row, less_matrix}

at : {A : Type 0} (d : A) (f : ℕ → A) (n i : ℕ) → i < n → get_or (table f 0 n) i d ≡ f i
at d f n i h = get_d-table f d 0 n i h ∙ ap f (zero-add i)

-- ---- by what is skipped

less-term : (sx sy sz : Bool) (x y z : ℕ) → keeps sx sy sz ≡ false → less_term sz (term sx sy x y) z ≡ result sx sy sz x y z
unfolding result
less-term false sy sz x y z e = refl
less-term true false sz x y z e = refl
less-term true true true x y z e = refl
less-term true true false x y z e = absurd (true_false e)

z_stays : (sx sy sz : Bool) (x y z : ℕ) → keeps sx sy sz ≡ true → result sx sy sz x y z ≡ z
unfolding result
z_stays sx sy true x y z e = absurd (true_false (sym e))
z_stays sx false false x y z e = absurd (true_false (sym e))
z_stays false true false x y z e = absurd (true_false (sym e))
z_stays true true false x y z e = refl

-- ---- the terms

-- the bytes loaded lie in X and Y
in_xy : (s : List ℕ) (base offset i : ℕ) → base ≤ 512 → number 8 (loaded s base offset) (8 * i) ≡ number 8 (loaded (take 1024 s) base offset) (8 * i)
in_xy s base offset i h =
    number_same 8 (loaded s base offset) (loaded (take 1024 s) base offset) (8 * i)
    (λ k l. sym (get_or-take 1024 s (base + (offset + (8 * i + k)) % 512) 0 (omega arith)))

term-at : (op : ℕ) (s : List ℕ) (l : ℕ) → l < 8
    → get_or (terms_of op s) l 0 ≡ term (skips_x op) (skips_y op) (x_lane op (take 1024 s) l) (y_lane op (take 1024 s) l)
unfolding terms_of x_lane y_lane
term-at op s l h =
    at 0 (λ k. term (skips_x op) (skips_y op) (x_lane op s k) (y_lane op s k)) 8 l h
    ∙ ap₂ (term (skips_x op) (skips_y op)) (in_xy s x_base (bits op 10 18) l (omega arith)) (in_xy s y_base (bits op 0 8) l (omega arith))

-- as the code reads them
module _ (op : ℕ) (s r : List ℕ) where
  pub no-terms : skips_x op ≡ true → skips_y op ≡ true → r ≡ replicate 8 0 → r ≡ terms_of op s
  unfolding terms_of table
  no-terms hx hy er = er ∙ sym (λ i. table (λ l. term (hx i) (hy i) (x_lane op s l) (y_lane op s l)) 0 8)

  pub y-terms : skips_x op ≡ true → skips_y op ≡ false → (k : ℕ) → k ≡ bits op 0 8 → r ≡ table (λ l. number 8 (loaded s y_base k) (8 * l)) 0 8 → r ≡
      terms_of op s
  unfolding terms_of y_lane
  y-terms hx hy k ek er =
      er ∙ (λ i. table (λ l. number 8 (loaded s y_base (ek i)) (8 * l)) 0 8) ∙ sym (λ i. table (λ l. term (hx i) (hy i) (x_lane op s l) (y_lane op s l)) 0 8)

  pub x-terms : skips_x op ≡ false → (k : ℕ) → k ≡ bits op 10 18 → r ≡ table (λ l. number 8 (loaded s x_base k) (8 * l)) 0 8 → r ≡ terms_of op s
  unfolding terms_of x_lane
  x-terms hx k ek er =
      er ∙ (λ i. table (λ l. number 8 (loaded s x_base (ek i)) (8 * l)) 0 8)
      ∙ sym (λ i. table (λ l. term (hx i) (skips_y op) (x_lane op s l) (y_lane op s l)) 0 8)

-- the term of the lane, or that of the row where X is skipped
term-across : (sx sy : Bool) (x y : ℕ → ℕ) (j l : ℕ) → term sx sy (x (cond sx j l)) (y (cond sx j l)) ≡ term sx sy (x l) (y j)
term-across true sy x y j l = refl
term-across false sy x y j l = refl

-- ---- the forms

-- one row
is_row : (row r : ℕ) → among row 1 r ≡ eqb r row
is_row row r =
    ⊎_elim
    (λ (low : r < row). among-before row 1 r low ∙ sym (ne_eqb r row (λ e. omega arith)))
    (λ (high : row ≤ r).
    ⊎_elim
    (λ (here : r < row + 1). among-yes row 1 r high here ∙ sym (eq-eqb r row (omega arith)))
    (λ (past : row + 1 ≤ r). among-after row 1 r past ∙ sym (ne_eqb r row (λ e. omega arith)))
    (lt_or_le r (row + 1)))
    (lt_or_le r row)

module _ (op : ℕ) (s : List ℕ) (size : length s ≡ 5120) (small : Bytes s) where
  pub kept-meant : keeps_z op ≡ true → s ≡ applied (Fms64.fms64 op) s
  unfolding new_lane
  kept-meant e = holds-end (Fms64.fms64 op) 8 refl s s _ size small small lane (holds-start 8 8 refl s size)
    where
      lane : (r l : ℕ) → r < 64 → l < 8 → number 8 (byte_at s) (start 8 r l) ≡ lane_after (Fms64.fms64 op) s r l
      lane r l hr hl = sym (by (Fms64.on op r l))
        where
          Z : ℕ
          Z = number 8 (byte_at s) (start 8 r l)

          new : ℕ
          new = (Fms64.fms64 op).new (take 1024 s) r l Z

          same : new % span 8 ≡ Z
          same =
              ap (λ (n : ℕ). n % span 8) (z_stays (skips_x op) (skips_y op) (skips_z op) _ _ Z e)
              ∙ mod-eq_of_lt (number_lt 8 (byte_at s) (start 8 r l) small)

          by : (b : Bool) → cond b (new % span 8) Z ≡ Z
          by true = same
          by false = refl

  module _ (skips : keeps_z op ≡ false) (on : List Bool) (eo : on ≡ table (x_enabled op) 0 8) where
    enabled : (l : ℕ) → l < 8 → get_or on l false ≡ x_enabled op l
    enabled l hl = ap (λ (o : List Bool). get_or o l false) eo ∙ at false (x_enabled op) 8 l hl

    -- the new number of a lane, from lane l of X and lane j of Y
    abbrev made : ℕ → ℕ → ℕ → ℕ
    made l j z = result (skips_x op) (skips_y op) (skips_z op) (x_lane op (take 1024 s) l) (y_lane op (take 1024 s) j) z

    pub vector-meant : vector op ≡ true → applied (less_row (z_row op) (terms_of op s) on (skips_z op)) s ≡ applied (Fms64.fms64 op) s
    unfolding new_lane Fms64.on
    vector-meant v = same-lanes 8 _ _ _ _ false false 8 refl s size small lane
      where
        lane : (r l : ℕ) → r < 64 → l < 8 → lane_after (less_row (z_row op) (terms_of op s) on (skips_z op)) s r l ≡ lane_after (Fms64.fms64 op) s r l
        lane r l hr hl =
            let Z : ℕ = number 8 (byte_at s) (start 8 r l) in
            let XY : List ℕ = take 1024 s in
            let written : among (z_row op) 1 r && get_or on l false ≡ Fms64.on op r l =
            ap₂ (λ (a b : Bool). a && b) (is_row (z_row op) r) (enabled l hl) ∙ sym (pick_true _ _ v)
            in
            let new : less_term (skips_z op) (get_or (terms_of op s) l 0) Z ≡ made l (Fms64.j_of op r l) Z =
            ap (λ (t : ℕ). less_term (skips_z op) t Z) (term-at op s l hl)
            ∙ less-term (skips_x op) (skips_y op) (skips_z op) (x_lane op XY l) (y_lane op XY l) Z skips
            ∙ ap (λ (k : ℕ). made l k Z) (sym (pick_true _ _ v))
            in
            λ i. cond (written i) (new i % span 8) Z

    pub matrix-meant : vector op ≡ false → (yon : List Bool) → yon ≡ table (y_enabled op) 0 8
        → applied (less_matrix (z_row op % 8) (terms_of op s) (skips_x op) on yon (skips_z op)) s ≡ applied (Fms64.fms64 op) s
    unfolding new_lane Fms64.on
    matrix-meant v yon ey = same-lanes 8 _ _ _ _ false false 8 refl s size small lane
      where
        lane : (r l : ℕ) → r < 64 → l < 8
            → lane_after (less_matrix (z_row op % 8) (terms_of op s) (skips_x op) on yon (skips_z op)) s r l ≡ lane_after (Fms64.fms64 op) s r l
        lane r l hr hl =
            let Z : ℕ = number 8 (byte_at s) (start 8 r l) in
            let XY : List ℕ = take 1024 s in
            let j : ℕ = r / 8 in
            let hj : j < 8 = omega arith in
            let which : ℕ = cond (skips_x op) j l in
            let written : eqb (r % 8) (z_row op % 8) && (get_or on l false && get_or yon j false) ≡ Fms64.on op r l =
            ap₂ (λ (a b : Bool). eqb (r % 8) (z_row op % 8) && (a && b)) (enabled l hl)
            (ap (λ (o : List Bool). get_or o j false) ey ∙ at false (y_enabled op) 8 j hj ∙ ap (y_enabled op) (sym (pick_false l j v)))
            ∙ sym (pick_false _ _ v)
            in
            let new : less_term (skips_z op) (get_or (terms_of op s) which 0) Z ≡ made l (Fms64.j_of op r l) Z =
            ap (λ (t : ℕ). less_term (skips_z op) t Z)
            (term-at op s which (below (skips_x op) j l hj hl) ∙ term-across (skips_x op) (skips_y op) (x_lane op XY) (y_lane op XY) j l)
            ∙ less-term (skips_x op) (skips_y op) (skips_z op) (x_lane op XY l) (y_lane op XY j) Z skips
            ∙ ap (λ (k : ℕ). made l k Z) (sym (pick_false l j v))
            in
            λ i. cond (written i) (new i % span 8) Z
          where
            below : (b : Bool) (j l : ℕ) → j < 8 → l < 8 → cond b j l < 8
            below true j l hj hl = hj
            below false j l hj hl = hl
