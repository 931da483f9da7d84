-- The rows of the three forms: what one turn of a loop over them does.
-- Assumes nothing.
use mathlib.Core.Path.{◌≡◌, refl, sym, ap, ap₂, ◌∙◌, subst}
use mathlib.Core.Bool.{Bool, true, false, cond, ◌&&◌, ◌||◌}
use mathlib.Core.List.{List, [], ◌∷◌}
use Prim.Native.Nat.{ℕ, zero, suc, ◌+◌, ◌-◌, ◌*◌, ◌/◌, ◌%◌, ◌≤◌, ◌<◌}
use native.Mathlib.Nat.{zero-add, zero-mul}
use native.Mathlib.Omega.{arith}
use lib.Dec.{eqb}
use lib.IntN.{ℤ, pos}
use lib.ListN.{length, get_or, set, replicate, get_or-replicate}
use lib.Seq.{sets}
use mathlib.Core.Logic.{⊎_elim}
use borrow.Author.Tests.{eq-eqb, ne_eqb, eqb-true, eqb-false}
use Rattle.number.specs.Bytes.{span, byte_at, byte_of, bytes_of, number, table}
use Rattle.number.proofs.Bytes.{get_d-table}
use Rattle.number.proofs.Tests.{true_false, two, pick_true, pick_false, lt_or_le}
use Rattle.isa.specs.State.{start, lanes_of}
use Rattle.isa.specs.Effect.{Effect, new_lane, applied}
use Rattle.isa.specs.Mac16.{Form, vector, matrix16, matrix32, z_width, i_of, j_of}
use Rattle.state.specs.Rows.{among, place_in, lane_sum, run_sum}
use Rattle.state.proofs.Holds.{Bytes, lane_after, Holds, bytes-applied}
use Rattle.state.proofs.RunLoop.{in-run, among-yes, among-before, among-after}
use Rattle.state.proofs.RowsLoop.{Below, rows-skip, rows_more, same-lanes}
use Rattle.mac16.specs.Products.{term, row_terms, split, row_on, products}
use Rattle.mac16.proofs.Sides.{split_at}

-- ---- elements of the lists

pub term-at : (b m s : ℕ) (xs ys : List ℤ) (l : ℕ) → l < m → get_or (row_terms b m s xs ys) l 0 ≡ term b s (get_or xs l (pos 0)) (get_or ys l (pos 0))
unfolding row_terms
term-at b m s xs ys l h =
    let f : ℕ → ℕ = λ i. term b s (get_or xs i (pos 0)) (get_or ys i (pos 0)) in
    get_d-table f 0 0 m l h ∙ ap f (zero-add l)

-- ---- rows of a run

-- bytes, where an effect may be applied to them
pub bytes-if : (b : Bool) (e : Effect) (s : List ℕ) {t : List ℕ} → Bytes s → t ≡ cond b (applied e s) s → Bytes t
bytes-if b e s small et = subst Bytes (sym et) (by b)
  where
    by : (b : Bool) → Bytes (cond b (applied e s) s)
    by true = bytes-applied e s small
    by false = small

-- bytes, where those of a number are put
pub bytes-put : (s : List ℕ) (at b n : ℕ) {t : List ℕ} → Bytes s → t ≡ sets s at (bytes_of b n) → Bytes t
unfolding table byte_of
bytes-put s at b n small et = subst Bytes (sym et) (puts (bytes_of b n) s at (of-number b 0) small)
  where
    of-number : (b d : ℕ) → Bytes (table (byte_of n) d b)
    of-number zero d p = omega arith
    of-number (suc b) d zero = omega arith
    of-number (suc b) d (suc p) = of-number b (suc d) p

    put : (l : List ℕ) (i a : ℕ) → a < 256 → Bytes l → Bytes (set l i a)
    put [] i a h small p = small p
    put (x ∷ l) zero a h small zero = h
    put (x ∷ l) zero a h small (suc p) = small (suc p)
    put (x ∷ l) (suc i) a h small zero = small zero
    put (x ∷ l) (suc i) a h small (suc p) = put l i a h (λ q. small (suc q)) p

    puts : (vs l : List ℕ) (i : ℕ) → Bytes vs → Bytes l → Bytes (sets l i vs)
    puts [] l i each small = small
    puts (v ∷ vs) l i each small = puts vs (set l i v) (suc i) (λ p. each (suc p)) (put l i v (each zero) small)

module _ (form : Form) (z_row : ℕ) (xs : List ℤ) (on : List Bool) (ys : List ℤ) (yon : List Bool) (s : ℕ) (keep : Bool) (s₀ : List ℕ) where
  -- a row of the run that the form writes, with the terms and the mask of the run
  run-here : (row c r l : ℕ) (terms : List ℕ) (mask : List Bool) → row ≤ r → r < row + c → row_on form z_row yon r ≡ true
      → get_or terms (place_in (lanes_of (z_width form)) row r l) 0 ≡ term (z_width form) s (get_or xs (i_of form r l) (pos 0))
      (get_or ys (j_of form r l) (pos 0))
      → get_or mask (place_in (lanes_of (z_width form)) row r l) false ≡ get_or on (i_of form r l) false
      → lane_after (run_sum (z_width form) row c terms mask keep) s₀ r l ≡ lane_after (products form z_row xs on ys yon s keep) s₀ r l
  unfolding new_lane
  run-here row c r l terms mask h h' written et em = λ t.
      cond ((among-yes row c r h h' ∙ sym written) t && (keep || em t))
      (lane_sum (z_width form) (number (z_width form) (byte_at s₀) (start (z_width form) r l)) (et t) (em t) keep % span (z_width form))
      (number (z_width form) (byte_at s₀) (start (z_width form) r l))

  row-off : (row l : ℕ) → row_on form z_row yon row ≡ false → (products form z_row xs on ys yon s keep).on row l ≡ false
  row-off row l r = rw r

-- the place of a lane in a run of one row
alone : (m row l : ℕ) → place_in m row row l ≡ l
alone m row l = let none : row - row ≡ 0 = omega arith in ap (λ (x : ℕ). x * m + l) none ∙ omega (arith, zero-mul m)

-- ---- vector: its one row

pub vector_row : (z_row : ℕ) (xs : List ℤ) (on : List Bool) (ys : List ℤ) (yon : List Bool) (s : ℕ) (keep : Bool) (s₀ : List ℕ) → length s₀ ≡ 5120 → Bytes s₀
    → applied (run_sum 2 z_row 1 (row_terms 2 32 s xs ys) on keep) s₀ ≡ applied (products vector z_row xs on ys yon s keep) s₀
unfolding row_on
vector_row z_row xs on ys yon s keep s₀ size small = same-lanes 2 _ _ _ _ keep keep 32 refl s₀ size small lane
  where
    terms : List ℕ
    terms = row_terms 2 32 s xs ys

    other : (row l : ℕ) → (row ≡ z_row → ⊥) → among z_row 1 row ≡ false
    other row l f = ⊎_elim (λ low. among-before z_row 1 row low) (λ high. among-after z_row 1 row (beyond high)) (lt_or_le row z_row)
      where
        beyond : z_row ≤ row → z_row + 1 ≤ row
        beyond h = ⊎_elim (λ same. absurd (f (omega arith))) (λ past. past) (lt_or_le row (z_row + 1))

    this : (row l : ℕ) → l < 32 → row ≡ z_row → lane_after (run_sum 2 z_row 1 terms on keep) s₀ row l ≡ lane_after
        (products vector z_row xs on ys yon s keep) s₀ row l
    this row l hl e =
        let at : place_in 32 z_row row l ≡ l = ap (λ (r : ℕ). place_in 32 z_row r l) e ∙ alone 32 z_row l in
        run-here vector z_row xs on ys yon s keep s₀ z_row 1 row l terms on (omega arith) (omega arith) (eq-eqb row z_row e)
        (ap (λ (k : ℕ). get_or terms k 0) at ∙ term-at 2 32 s xs ys l hl) (ap (λ (k : ℕ). get_or on k false) at)

    lane : (row l : ℕ) → row < 64 → l < 32 → lane_after (run_sum 2 z_row 1 terms on keep) s₀ row l ≡ lane_after
        (products vector z_row xs on ys yon s keep) s₀ row l
    lane row l hr hl =
        two (eqb row z_row) (lane_after (run_sum 2 z_row 1 terms on keep) s₀ row l ≡ lane_after (products vector z_row xs on ys yon s keep) s₀ row l)
        (λ t. this row l hl (eqb-true row z_row t))
        (λ t.
        pick_false _ _ (in-run 2 z_row 1 terms on keep row l (other row l (eqb-false row z_row t)))
        ∙ sym (pick_false _ _ (row-off vector z_row xs on ys yon s keep s₀ row l t)))

-- ---- matrix 16: rows 2 j and 2 j + 1, of which one is written

module _ (p : ℕ) (hp : p < 2) (xs : List ℤ) (on : List Bool) (ys : List ℤ) (yon : List Bool) (s : ℕ) (keep : Bool) (s₀ : List ℕ) where
  abbrev pub Done16 : ℕ → List ℕ → Type 0
  Done16 n t = Holds 2 32 refl s₀ t (Below (products matrix16 p xs on ys yon s keep) 32 refl s₀ n)

  by-y : (j : ℕ) → row_on matrix16 p yon (2 * j + p) ≡ get_or yon j false
  unfolding row_on
  by-y j =
      let parity : (2 * j + p) % 2 ≡ p % 2 = omega arith in
      let lane : (2 * j + p) / 2 ≡ j = omega arith in
      (λ t. eq-eqb ((2 * j + p) % 2) (p % 2) parity t && get_or yon (lane t) false)

  other-parity : (j r : ℕ) → 2 * j ≤ r → r < 2 * (j + 1) → (r ≡ 2 * j + p → ⊥) → row_on matrix16 p yon r ≡ false
  unfolding row_on
  other-parity j r h l f = ap (λ (b : Bool). b && get_or yon (r / 2) false) (ne_eqb (r % 2) (p % 2) (λ e. f (omega (arith, e))))

  no-y : (j r : ℕ) → 2 * j ≤ r → r < 2 * (j + 1) → get_or yon j false ≡ false → row_on matrix16 p yon r ≡ false
  unfolding row_on
  no-y j r h l e =
      let lane : r / 2 ≡ j = omega arith in
      ap (λ (i : ℕ). eqb (r % 2) (p % 2) && get_or yon i false) lane ∙ off (eqb (r % 2) (p % 2))
    where
      off : (b : Bool) → b && get_or yon j false ≡ false
      off true = e
      off false = refl

  pub matrix16-turn : (j : ℕ) (t u : List ℕ) → j < 32 → Done16 (2 * j) t
      → u ≡ cond (get_or yon j false) (applied (run_sum 2 (2 * j + p) 1 (row_terms 2 32 s xs (replicate 32 (get_or ys j (pos 0)))) on keep) t) t →
      Done16 (2 * (j + 1)) u
  unfolding new_lane
  matrix16-turn j t u hj done eu =
      two (get_or yon j false) (Done16 (2 * (j + 1)) u)
      (λ y.
      rows_more E 32 refl s₀ _ _ keep (2 * j + p) 1 (2 * j) (2 * (j + 1)) t u (omega arith) (omega arith) (in-run 2 (2 * j + p) 1 terms on keep)
      (λ r l h h' hl. here y r l (omega arith) hl)
      (λ r l h h' f. row-off matrix16 p xs on ys yon s keep s₀ r l (other-parity j r h h'
      (λ e. true_false (sym (among-yes (2 * j + p) 1 r (omega arith) (omega arith)) ∙ f))))
      done (eu ∙ pick_true _ _ y))
      (λ y.
      subst (Done16 (2 * (j + 1))) (sym (eu ∙ pick_false _ _ y))
      (rows-skip E 32 refl s₀ (2 * j) (2 * (j + 1)) t (omega arith) (λ r l h h'. row-off matrix16 p xs on ys yon s keep s₀ r l (no-y j r h h' y)) done))
    where
      E : Effect
      E = products matrix16 p xs on ys yon s keep

      terms : List ℕ
      terms = row_terms 2 32 s xs (replicate 32 (get_or ys j (pos 0)))

      term-here : (l : ℕ) → l < 32 → get_or terms l 0 ≡ term 2 s (get_or xs l (pos 0)) (get_or ys ((2 * j + p) / 2) (pos 0))
      term-here l hl =
          let lane : j ≡ (2 * j + p) / 2 = omega arith in
          term-at 2 32 s xs (replicate 32 (get_or ys j (pos 0))) l hl
          ∙ ap (term 2 s (get_or xs l (pos 0))) (get_or-replicate 32 l (get_or ys j (pos 0)) (pos 0) hl ∙ ap (λ (i : ℕ). get_or ys i (pos 0)) lane)

      here : get_or yon j false ≡ true → (r l : ℕ) → r ≡ 2 * j + p → l < 32 → lane_after (run_sum 2 (2 * j + p) 1 terms on keep) s₀ r l ≡ lane_after E s₀ r l
      here y r l e hl =
          subst (λ (x : ℕ). lane_after (run_sum 2 (2 * j + p) 1 terms on keep) s₀ x l ≡ lane_after E s₀ x l) (sym e)
          (run-here matrix16 p xs on ys yon s keep s₀ (2 * j + p) 1 (2 * j + p) l terms on (omega arith) (omega arith) (by-y j ∙ y)
          (ap (λ (k : ℕ). get_or terms k 0) (alone 32 (2 * j + p) l) ∙ term-here l hl) (ap (λ (k : ℕ). get_or on k false) (alone 32 (2 * j + p) l)))

-- ---- matrix 32: rows 2 j and 2 j + 1, of which both are written

module _ (z_row : ℕ) (xs : List ℤ) (on : List Bool) (ys : List ℤ) (yon : List Bool) (s : ℕ) (keep : Bool) (s₀ : List ℕ) where
  abbrev pub Done32 : ℕ → List ℕ → Type 0
  Done32 n t = Holds 4 16 refl s₀ t (Below (products matrix32 z_row xs on ys yon s keep) 16 refl s₀ n)

  pub matrix32-turn : (j : ℕ) (lanes : List ℤ) (mask : List Bool) (t u : List ℕ) → j < 32 → lanes ≡ split (pos 0) xs → mask ≡ split false on → Done32 (j * 2) t
      → u ≡ cond (get_or yon j false) (applied (run_sum 4 (j * 2) 2 (row_terms 4 32 s lanes (replicate 32 (get_or ys j (pos 0)))) mask keep) t) t →
      Done32 ((j + 1) * 2) u
  unfolding row_on new_lane
  matrix32-turn j lanes mask t u hj el em done eu =
      two (get_or yon j false) (Done32 ((j + 1) * 2) u)
      (λ y.
      rows_more E 16 refl s₀ _ _ keep (j * 2) 2 (j * 2) ((j + 1) * 2) t u (omega arith) (omega arith) (in-run 4 (j * 2) 2 terms mask keep)
      (λ r l h h' hl.
      run-here matrix32 z_row xs on ys yon s keep s₀ (j * 2) 2 r l terms mask h h' (by-y r h h' ∙ y) (term-here r l h h' hl) (mask-here r l h h' hl))
      (λ r l h h' f. absurd (true_false (sym (among-yes (j * 2) 2 r h (omega arith)) ∙ f)))
      done (eu ∙ pick_true _ _ y))
      (λ y.
      subst (Done32 ((j + 1) * 2)) (sym (eu ∙ pick_false _ _ y))
      (rows-skip E 16 refl s₀ (j * 2) ((j + 1) * 2) t (omega arith) (λ r l h h'. row-off matrix32 z_row xs on ys yon s keep s₀ r l
      (by-y r h (omega arith) ∙ y)) done))
    where
      E : Effect
      E = products matrix32 z_row xs on ys yon s keep

      terms : List ℕ
      terms = row_terms 4 32 s lanes (replicate 32 (get_or ys j (pos 0)))

      by-y : (r : ℕ) → j * 2 ≤ r → r < j * 2 + 2 → get_or yon (r / 2) false ≡ get_or yon j false
      by-y r h h' = ap (λ (i : ℕ). get_or yon i false) (omega arith)

      -- an element of a split list, by the lane of its row
      of-split : {A : Type 0} (d : A) (l' l'' : List A) → l' ≡ split d l'' → (r l : ℕ) → j * 2 ≤ r → r < j * 2 + 2 → l < 16 → get_or l'
          (place_in 16 (j * 2) r l) d ≡ get_or l'' (2 * l + r % 2) d
      of-split d l' l'' e r l h h' hl =
          let place : 2 * (place_in 16 (j * 2) r l % 16) + place_in 16 (j * 2) r l / 16 ≡ 2 * l + r % 2 = omega arith in
          ap (λ (x : List _). get_or x (place_in 16 (j * 2) r l) d) e ∙ split_at d l'' (place_in 16 (j * 2) r l) (omega arith)
          ∙ ap (λ (i : ℕ). get_or l'' i d) place

      term-here : (r l : ℕ) → j * 2 ≤ r → r < j * 2 + 2 → l < 16 → get_or terms (place_in 16 (j * 2) r l) 0 ≡ term 4 s
          (get_or xs (2 * l + r % 2) (pos 0)) (get_or ys (r / 2) (pos 0))
      term-here r l h h' hl =
          let lane : j ≡ r / 2 = omega arith in
          term-at 4 32 s lanes (replicate 32 (get_or ys j (pos 0))) (place_in 16 (j * 2) r l) (omega arith)
          ∙ ap₂ (term 4 s) (of-split (pos 0) lanes xs el r l h h' hl)
          (get_or-replicate 32 (place_in 16 (j * 2) r l) (get_or ys j (pos 0)) (pos 0) (omega arith) ∙ ap (λ (i : ℕ). get_or ys i (pos 0)) lane)

      mask-here : (r l : ℕ) → j * 2 ≤ r → r < j * 2 + 2 → l < 16 → get_or mask (place_in 16 (j * 2) r l) false ≡ get_or on (2 * l + r % 2) false
      mask-here = of-split false mask on em
