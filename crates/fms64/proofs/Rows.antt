-- The rows that the code writes: one, and those of a matrix, a row at a time.
-- Assumes nothing.
use mathlib.Core.Path.{◌≡◌, refl, sym, ap, ◌∙◌, subst}
use mathlib.Core.Bool.{Bool, true, false, cond, ◌&&◌}
use mathlib.Core.List.{List}
use Prim.Native.Nat.{ℕ, ◌+◌, ◌*◌, ◌/◌, ◌%◌, ◌≤◌, ◌<◌}
use native.Mathlib.Omega.{arith}
use lib.Dec.{eqb}
use lib.Ieee.{binary64}
use lib.ListN.{length, get_or, replicate, get_or-replicate}
use borrow.Author.Tests.{eq-eqb, ne_eqb}
use Rattle.number.specs.Bytes.{span, byte_at, number, table}
use Rattle.number.proofs.Tests.{true_false, two, pick_true, pick_false}
use Rattle.float.specs.Floats.{subtracted, negated}
use Rattle.isa.specs.State.{start}
use Rattle.isa.specs.Effect.{Effect, new_lane, applied}
use Rattle.isa.specs.Fms64 as Fms64
use Rattle.state.specs.Rows.{among, one_row}
use Rattle.state.proofs.Holds.{Bytes, lane_after, Holds, bytes-applied}
use Rattle.state.proofs.RunLoop.{among-yes}
use Rattle.state.proofs.RowsLoop.{Below, rows_start, rows-skip, rows_more, rows_end}
use Rattle.state.proofs.Dealing.{in_row}
use Rattle.state.proofs.Numbers.{row_same, row_made}
use Rattle.fms64.specs.Terms.{row_terms, less_row, less_matrix}

-- bytes, where an effect may be applied to them
pub bytes-if : (b : Bool) (e : Effect) (s : List ℕ) {t : List ℕ} → Bytes s → t ≡ cond b (applied e s) s → Bytes t
bytes-if b e s small et = subst Bytes (sym et) (by b)
  where
    by : (b : Bool) → Bytes (cond b (applied e s) s)
    by true = bytes-applied e s small
    by false = small

-- ---- one row

module _ (row : ℕ) (ts : List ℕ) (on : List Bool) (s t values : List ℕ) (size : length s ≡ 5120) (small : Bytes s) (inside : row < 64)
    (et : t ≡ cond (eqb (length s) 5120) (applied (one_row 8 row (λ l. get_or on l false) (λ l z. get_or values l 0)) s) s) where
  stored : t ≡ applied (one_row 8 row (λ l. get_or on l false) (λ l z. get_or values l 0)) s
  stored = et ∙ pick_true _ _ (eq-eqb (length s) 5120 size)

  -- stored from a list that was made of the row's old numbers
  made : (new : ℕ → ℕ → ℕ) (zs : List ℕ) → zs ≡ table (λ l. number 8 (byte_at s) (start 8 (row % 64) l)) 0 8
      → values ≡ table (λ l. new l (get_or zs l 0)) 0 8 → t ≡ applied (one_row 8 row (λ l. get_or on l false) new) s
  made new zs ez ev = stored ∙ row_made 8 8 refl row s size small (λ l. get_or on l false) new zs values inside ez ev

  pub negated-row : (skip_z : Bool) → skip_z ≡ true → values ≡ table (λ l. negated binary64 (get_or ts l 0)) 0 8 → t ≡ applied (less_row row ts on skip_z) s
  negated-row skip_z e ev =
      made (λ l z. negated binary64 (get_or ts l 0)) _ refl ev ∙ ap (λ (b : Bool). applied (less_row row ts on b) s) (sym e)

  pub subtracted-row : (skip_z : Bool) → skip_z ≡ false → (zs : List ℕ) → zs ≡ table (λ l. number 8 (byte_at s) (start 8 (row % 64) l)) 0 8
      → values ≡ table (λ l. subtracted binary64 (get_or zs l 0) (get_or ts l 0)) 0 8 → t ≡ applied (less_row row ts on skip_z) s
  subtracted-row skip_z e zs ez ev =
      made (λ l z. subtracted binary64 z (get_or ts l 0)) zs ez ev ∙ ap (λ (b : Bool). applied (less_row row ts on b) s) (sym e)

-- ---- a row of a matrix

module _ (j p : ℕ) (ts : List ℕ) (on : List Bool) (skip_z : Bool) (s : List ℕ) where
  abbrev row_by : (ℕ → ℕ) → List ℕ
  row_by place = applied (one_row 8 (8 * j + p) (λ l. get_or on l false) (λ l z. Fms64.less_term skip_z (get_or ts (place l) 0) z)) s

  module _ (yon : List Bool) (skip_x : Bool) (t : List ℕ) where
    abbrev Left : Type 0
    Left = t ≡ cond (get_or yon j false) (row_by (λ l. cond skip_x j l)) s

    written : (x : Bool) → skip_x ≡ x → get_or yon j false ≡ true → t ≡ row_by (λ l. cond x j l) → Left
    written x e y et = et ∙ ap (λ (b : Bool). row_by (λ l. cond b j l)) (sym e) ∙ sym (pick_true _ _ y)

    pub row-left : length s ≡ 5120 → Bytes s → get_or yon j false ≡ true → (us : List ℕ) → us ≡ row_terms skip_x ts j
        → t ≡ applied (less_row (8 * j + p) us on skip_z) s → Left
    row-left size small y us eu et = two skip_x Left (λ e. written true e y (by true e ∙ one-term)) (λ e. written false e y (by false e))
      where
        by : (x : Bool) → skip_x ≡ x → t ≡ applied (less_row (8 * j + p) (row_terms x ts j) on skip_z) s
        by x e = et ∙ ap (λ (vs : List ℕ). applied (less_row (8 * j + p) vs on skip_z) s) (eu ∙ ap (λ (b : Bool). row_terms b ts j) e)

        -- one term for all lanes
        one-term : applied (less_row (8 * j + p) (replicate 8 (get_or ts j 0)) on skip_z) s ≡ row_by (λ l. j)
        one-term =
            row_same 8 8 refl (8 * j + p) s size small (λ l. get_or on l false) (λ l. get_or on l false)
            (λ l z. Fms64.less_term skip_z (get_or (replicate 8 (get_or ts j 0)) l 0) z) (λ l z. Fms64.less_term skip_z (get_or ts j 0) z)
            (λ l hl. refl)
            (λ l hl. ap (λ (v : ℕ). Fms64.less_term skip_z v (number 8 (byte_at s) (start 8 (8 * j + p) l))) (get_or-replicate 8 l (get_or ts j 0) 0 hl))

-- ---- rows 8 j to 8 j + 7, of which one may be written

module _ (p : ℕ) (ts : List ℕ) (skip_x : Bool) (on yon : List Bool) (skip_z : Bool) (s₀ : List ℕ) where
  abbrev E : Effect
  E = less_matrix p ts skip_x on yon skip_z

  abbrev pub Done : ℕ → List ℕ → Type 0
  Done n t = Holds 8 8 refl s₀ t (Below E 8 refl s₀ n)

  pub done_none : length s₀ ≡ 5120 → Done 0 s₀
  done_none = rows_start E 8 refl s₀

  pub done_all : (n : ℕ) (t : List ℕ) → 64 ≤ n → length s₀ ≡ 5120 → Bytes s₀ → Bytes t → Done n t → t ≡ applied E s₀
  done_all = rows_end E 8 refl s₀

  -- the row that comes to Y lane j
  abbrev Row : ℕ → Effect
  Row j = one_row 8 (8 * j + p) (λ l. get_or on l false) (λ l z. Fms64.less_term skip_z (get_or ts (cond skip_x j l) 0) z)

  another-row : (r l : ℕ) → (r % 8 ≡ p → ⊥) → E.on r l ≡ false
  another-row r l f = ap (λ (b : Bool). b && (get_or on l false && get_or yon (r / 8) false)) (ne_eqb (r % 8) p f)

  no-lane : (r l : ℕ) → get_or yon (r / 8) false ≡ false → E.on r l ≡ false
  no-lane r l e = ap (λ (b : Bool). eqb (r % 8) p && (get_or on l false && b)) e ∙ none (eqb (r % 8) p) (get_or on l false)
    where
      none : (a b : Bool) → a && (b && false) ≡ false
      none true true = refl
      none true false = refl
      none false b = refl

  here : (j : ℕ) → p < 8 → get_or yon j false ≡ true → (r l : ℕ) → r ≡ 8 * j + p → lane_after (Row j) s₀ r l ≡ lane_after E s₀ r l
  unfolding new_lane
  here j hp y r l e =
      let Z : ℕ = number 8 (byte_at s₀) (start 8 r l) in
      let row : r % 8 ≡ p = omega arith in
      let lane : j ≡ r / 8 = omega arith in
      let written : among (8 * j + p) 1 r ≡ true = among-yes (8 * j + p) 1 r (omega arith) (omega arith) in
      let both : among (8 * j + p) 1 r && get_or on l false ≡ eqb (r % 8) p && (get_or on l false && get_or yon (r / 8) false) =
      (λ i. written i && get_or on l false)
      ∙ sym ((λ i. eq-eqb (r % 8) p row i && (get_or on l false && (ap (λ (k : ℕ). get_or yon k false) (sym lane) ∙ y) i)) ∙ and_true (get_or on l false))
      in
      λ i. cond (both i) (Fms64.less_term skip_z (get_or ts (cond skip_x (lane i) l) 0) Z % span 8) Z
    where
      and_true : (b : Bool) → b && true ≡ b
      and_true true = refl
      and_true false = refl

  pub matrix-turn : (j : ℕ) (t u : List ℕ) → p < 8 → j < 8 → Done (8 * j) t → u ≡ cond (get_or yon j false) (applied (Row j) t) t → Done (8 * (j + 1)) u
  unfolding new_lane
  matrix-turn j t u hp hj done eu =
      two (get_or yon j false) (Done (8 * (j + 1)) u)
      (λ y.
      rows_more E 8 refl s₀ _ _ false (8 * j + p) 1 (8 * j) (8 * (j + 1)) t u (omega arith) (omega arith)
      (in_row 8 8 refl (8 * j + p) (λ l. get_or on l false) (λ l z. Fms64.less_term skip_z (get_or ts (cond skip_x j l) 0) z))
      (λ r l h h' hl. here j hp y r l (omega arith))
      (λ r l h h' f. another-row r l (λ e. true_false (sym (among-yes (8 * j + p) 1 r (omega (arith, e)) (omega (arith, e))) ∙ f)))
      done (eu ∙ pick_true _ _ y))
      (λ y.
      subst (Done (8 * (j + 1))) (sym (eu ∙ pick_false _ _ y))
      (rows-skip E 8 refl s₀ (8 * j) (8 * (j + 1)) t (omega arith)
      (λ r l h h'.
      let lane : r / 8 ≡ j = omega arith in
      no-lane r l (ap (λ (k : ℕ). get_or yon k false) lane ∙ y)) done))
