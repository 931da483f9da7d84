-- The enabled lanes of the rows of Z, counted by the rules of the two sides.
-- Assumes nothing.
use Rattle.std.proofs.Common.{◌≡◌, ℕ, ◌+◌, ◌*◌, ◌/◌, ◌%◌, ◌<◌, Bool, true, false, cond, ◌&&◌, eqb, refl, ap, ◌∙◌, arith}
use lib.Arith.{digits_div, digits_mod}
use Rattle.isa.specs.Effect.{sum, count}
use Rattle.isa.proofs.Count.{sum-cong, sum-scale, sum-groups, sum-if, sum_one, none, count-if}

-- lanes that a condition before them and one behind them govern
pub count-between : (a b : Bool) (f : ℕ → Bool) (n : ℕ) → count (λ l. a && (f l && b)) n ≡ cond (a && b) (count f n) 0
count-between false b f n = none n
count-between true true f n =
    sum-cong (λ l. cond (f l && true) 1 0) (λ l. cond (f l) 1 0) n (λ l h. ap (λ (t : Bool). cond t 1 0) (and_true (f l)))
  where
    and_true : (t : Bool) → t && true ≡ t
    and_true true = refl
    and_true false = refl
count-between true false f n =
    sum-cong (λ l. cond (f l && false) 1 0) (λ l. 0) n (λ l h. ap (λ (t : Bool). cond t 1 0) (and-false (f l))) ∙ none n
  where
    and-false : (t : Bool) → t && false ≡ false
    and-false true = refl
    and-false false = refl

-- the same count for each enabled lane of another mask
pub each : (c : ℕ) (f : ℕ → Bool) (n : ℕ) → sum (λ k. cond (f k) c 0) n ≡ c * count f n
each c f n =
    sum-cong (λ k. cond (f k) c 0) (λ k. c * cond (f k) 1 0) n (λ k h. by (f k)) ∙ sum-scale (λ k. cond (f k) 1 0) c n
  where
    by : (b : Bool) → cond b c 0 ≡ c * cond b 1 0
    by true = omega arith
    by false = omega arith

-- ---- rows of m lanes

module _ (x : ℕ → Bool) (m : ℕ) where
  -- one row of many
  pub one-row : (z rows : ℕ) → z < rows → sum (λ row. count (λ l. eqb row z && x l) m) rows ≡ count x m
  one-row z rows h =
      sum-cong (λ row. count (λ l. eqb row z && x l) m) (λ row. cond (eqb row z) (count x m) 0) rows (λ row l. count-if (eqb row z) x m)
      ∙ sum_one (count x m) z rows h

  -- row p of each g, for each enabled lane j of the other side
  pub row-of-each : (y : ℕ → Bool) (n g p : ℕ) → p < g → sum (λ row. count (λ l. eqb (row % g) p && (x l && y (row / g))) m) (n * g) ≡ count x m * count y n
  row-of-each y n g p hp =
      sum-cong (λ row. count (λ l. eqb (row % g) p && (x l && y (row / g))) m) rows (n * g) (λ row h. count-between (eqb (row % g) p) (y (row / g)) x m)
      ∙ sum-groups rows n g
      ∙ sum-cong (λ j. sum (λ b. rows (j * g + b)) g) (λ j. cond (y j) (count x m) 0) n (λ j h. group j)
      ∙ each (count x m) y n
    where
      rows : ℕ → ℕ
      rows row = cond (eqb (row % g) p && y (row / g)) (count x m) 0

      at : (j b : ℕ) → b < g → rows (j * g + b) ≡ cond (y j) (cond (eqb b p) (count x m) 0) 0
      at j b h =
          (λ t. cond (eqb (digits_mod j {r = b} h t) p && y (digits_div j {r = b} h t)) (count x m) 0) ∙ turned (eqb b p) (y j)
        where
          turned : (a c : Bool) → cond (a && c) (count x m) 0 ≡ cond c (cond a (count x m) 0) 0
          turned true true = refl
          turned true false = refl
          turned false true = refl
          turned false false = refl

      group : (j : ℕ) → sum (λ b. rows (j * g + b)) g ≡ cond (y j) (count x m) 0
      group j =
          sum-cong (λ b. rows (j * g + b)) (λ b. cond (y j) (cond (eqb b p) (count x m) 0) 0) g (at j)
          ∙ sum-if (y j) (λ b. cond (eqb b p) (count x m) 0) g
          ∙ ap (λ (k : ℕ). cond (y j) k 0) (sum_one (count x m) p g hp)
