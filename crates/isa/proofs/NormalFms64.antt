-- The normal operand of fms64 has the operand's effect, and is its own normal operand.
-- Assumes nothing.
use mathlib.Core.Path.{◌≡◌, sym, ◌∙◌, subst}
use mathlib.Core.Bool.{Bool, true, false, cond, not, ◌&&◌}
use mathlib.Core.List.{List}
use Prim.Native.Nat.{ℕ, ◌*◌, ◌/◌, ◌%◌, ◌^◌}
use lib.Dec.{T, eqb}
use lib.Pow.{mod-mod-pow}
use Rattle.number.specs.Bytes.{number}
use Rattle.isa.specs.Operand.{bits}
use Rattle.isa.specs.State.{x_base, y_base, loaded}
use Rattle.isa.specs.Enable.{mac16_enables}
use Rattle.isa.specs.Fms64 as Fms64
use Rattle.isa.specs.Normal.{Ignored, fms64_ignored_if, fms64_ignored, cleared_all}
use Rattle.number.proofs.Tests.{two, pick_true, pick_false}
use Rattle.isa.proofs.Clear.{clear_of_all, separate, bits-same, twice}

-- a fact of both modes
by_mode : (P : Bool → Type 0) → P true → P false → (vector : Bool) → P vector
by_mode P v m true = v
by_mode P v m false = m

module _ (op : ℕ) where
  abbrev entries : List Ignored
  entries = fms64_ignored op

  abbrev pub kept : ℕ
  kept = cleared_all entries op

  -- a field that is read in vector and in matrix mode, and one that is read in one of them
  pub read : (j k : ℕ) → T (clear_of_all j k (fms64_ignored_if true)) → T (clear_of_all j k (fms64_ignored_if false)) → bits kept j k ≡ bits op j k
  read j k v m = bits-same entries op j k (by_mode (λ b. T (clear_of_all j k (fms64_ignored_if b))) v m (Fms64.vector op))

  read-in : (b : Bool) → Fms64.vector op ≡ b → (j k : ℕ) → T (clear_of_all j k (fms64_ignored_if b)) → bits kept j k ≡ bits op j k
  read-in b e j k t = bits-same entries op j k (subst (λ (x : Bool). T (clear_of_all j k (fms64_ignored_if x))) (sym e) t)

  vector-same : Fms64.vector kept ≡ Fms64.vector op
  vector-same = λ t. eqb (read 63 63 tt tt t) 1

  pub not-covered-same : Fms64.not_covered kept ≡ Fms64.not_covered op
  not-covered-same = λ t. not (eqb (read 29 29 tt tt t) 1) && not (eqb (read 28 28 tt tt t) 1)

  -- ---- places

  x-enabled : Fms64.x_enabled kept ≡ Fms64.x_enabled op
  x-enabled = λ t i. mac16_enables 8 (read 46 47 tt tt t) (read 41 45 tt tt t) i

  y_enabled_lem : Fms64.vector op ≡ false → Fms64.y_enabled kept ≡ Fms64.y_enabled op
  y_enabled_lem e = λ t j. mac16_enables 8 (read-in false e 37 38 tt t) (read-in false e 32 36 tt t) j

  -- Z row modulo 8 is bits 20 to 22
  low-row : (x : ℕ) → Fms64.z_row x % 8 ≡ bits x 20 22
  unfolding bits
  low-row x = mod-mod-pow (x / 2 ^ 20) 3 3

  row_same : Fms64.z_row kept % 8 ≡ Fms64.z_row op % 8
  row_same = low-row kept ∙ read 20 22 tt tt ∙ sym (low-row op)

  on_same : (row i : ℕ) → Fms64.on kept row i ≡ Fms64.on op row i
  unfolding Fms64.on
  on_same row i =
      two (Fms64.vector op) (Fms64.on kept row i ≡ Fms64.on op row i)
      (λ e.
      pick_true _ _ (vector-same ∙ e)
      ∙ (λ t. eqb row (read-in true e 20 25 tt t) && x-enabled t i)
      ∙ sym (pick_true _ _ e))
      (λ e.
      pick_false _ _ (vector-same ∙ e)
      ∙ (λ t. eqb (row % 8) (row_same t) && (x-enabled t i && y_enabled_lem e t (cond (vector-same t) i (row / 8))))
      ∙ sym (pick_false _ _ e))

  -- ---- the effect

  x-lane : Fms64.x_lane kept ≡ Fms64.x_lane op
  unfolding Fms64.x_lane
  x-lane = λ t xy i. number 8 (loaded xy x_base (read 10 18 tt tt t)) (8 * i)

  y-lane : Fms64.y_lane kept ≡ Fms64.y_lane op
  unfolding Fms64.y_lane
  y-lane = λ t xy j. number 8 (loaded xy y_base (read 0 8 tt tt t)) (8 * j)

  pub fms64-same : Fms64.fms64 kept ≡ Fms64.fms64 op
  fms64-same = λ t. record {
    width = 8;
    on = λ row i. on_same row i t;
    new = λ xy row i z.
        Fms64.result (eqb (read 29 29 tt tt t) 1) (eqb (read 28 28 tt tt t) 1) (eqb (read 27 27 tt tt t) 1)
        (x-lane t xy i) (y-lane t xy (cond (vector-same t) i (row / 8))) z;
    adds = false;
  }

  -- ---- twice

  pub fms64-twice : cleared_all (fms64_ignored kept) kept ≡ kept
  fms64-twice =
      (λ t. cleared_all (fms64_ignored_if (vector-same t)) kept)
      ∙ twice entries op (by_mode (λ b. T (separate (fms64_ignored_if b))) tt tt (Fms64.vector op))
