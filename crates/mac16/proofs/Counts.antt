-- The enabled lanes of each form, counted by the masks.
-- Assumes nothing.
use mathlib.Core.Path.{◌≡◌, ap, ◌∙◌}
use mathlib.Core.Bool.{true, cond, ◌&&◌}
use Prim.Native.Nat.{ℕ, ◌+◌, ◌*◌, ◌/◌, ◌%◌}
use native.Mathlib.Omega.{arith}
use Rattle.operand.proofs.Fields.{bits-lt}
use Rattle.isa.specs.Effect.{sum, count, lanes_on}
use Rattle.isa.specs.Mac16 as Mac16
use Rattle.isa.specs.Mac16.{vector, matrix16, matrix32, x_enabled, y_enabled, z_row}
use Rattle.isa.proofs.Count.{sum-cong, sum-groups, sum-plus, sum-if}
use Rattle.state.proofs.Counts.{count-between, each, one-row, row-of-each}

-- ---- the forms

pub count-vector : (op : ℕ) → lanes_on (Mac16.effect vector op) ≡ count (x_enabled op) 32
unfolding lanes_on Mac16.on
count-vector op = one-row (x_enabled op) 32 (z_row op) 64 (bits-lt op 20 25)

-- a row of each two
pub count-matrix16 : (op : ℕ) → lanes_on (Mac16.effect matrix16 op) ≡ count (x_enabled op) 32 * count (y_enabled op) 32
unfolding lanes_on Mac16.on
count-matrix16 op = row-of-each (x_enabled op) 32 (y_enabled op) 32 2 (z_row op % 2) (omega arith)

-- both rows of each two
pub count-matrix32 : (op : ℕ) → lanes_on (Mac16.effect matrix32 op) ≡ count (x_enabled op) 32 * count (y_enabled op) 32
unfolding lanes_on Mac16.on sum
count-matrix32 op =
    sum-cong (λ row. count (λ l. x_enabled op (2 * l + row % 2) && y_enabled op (row / 2)) 16) rows 64
    (λ row h. count-between true (y_enabled op (row / 2)) (λ l. x_enabled op (2 * l + row % 2)) 16)
    ∙ sum-groups rows 32 2
    ∙ sum-cong (λ j. sum (λ b. rows (j * 2 + b)) 2) (λ j. cond (y_enabled op j) (count (x_enabled op) 32) 0) 32 (λ j h. pair j)
    ∙ each (count (x_enabled op) 32) (y_enabled op) 32
  where
    -- the X lanes of one parity
    parity : ℕ → ℕ
    parity b = count (λ l. x_enabled op (2 * l + b)) 16

    rows : ℕ → ℕ
    rows row = cond (y_enabled op (row / 2)) (parity (row % 2)) 0

    both : sum parity 2 ≡ count (x_enabled op) 32
    both =
        let one : ℕ → ℕ = λ i. cond (x_enabled op i) 1 0 in
        let split : sum (λ l. sum (λ b. one (l * 2 + b)) 2) 16 ≡ sum (λ l. one (2 * l + 1) + one (2 * l + 0)) 16 =
        sum-cong (λ l. sum (λ b. one (l * 2 + b)) 2) (λ l. one (2 * l + 1) + one (2 * l + 0)) 16
        (λ l h. omega (arith, ap one (in_order l 1), ap one (in_order l 0)))
        in
        omega (arith, sum-groups one 16 2, split, sum-plus (λ l. one (2 * l + 1)) (λ l. one (2 * l + 0)) 16)
      where
        in_order : (l b : ℕ) → l * 2 + b ≡ 2 * l + b
        in_order l b = omega arith

    pair : (j : ℕ) → sum (λ b. rows (j * 2 + b)) 2 ≡ cond (y_enabled op j) (count (x_enabled op) 32) 0
    pair j =
        sum-cong (λ b. rows (j * 2 + b)) (λ b. cond (y_enabled op j) (parity b) 0) 2
        (λ b h.
        let same : (j * 2 + b) % 2 ≡ b = omega arith in
        let lane : (j * 2 + b) / 2 ≡ j = omega arith in
        (λ t. cond (y_enabled op (lane t)) (parity (same t)) 0))
        ∙ sum-if (y_enabled op j) parity 2
        ∙ ap (λ (n : ℕ). cond (y_enabled op j) n 0) both
