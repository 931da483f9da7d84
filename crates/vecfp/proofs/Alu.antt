-- What the lanes receive, by the branches of the code. Over the format.
-- Assumes nothing.
use mathlib.Core.Path.{◌≡◌, sym, ap, ◌∙◌}
use mathlib.Core.Bool.{Bool, true, false}
use mathlib.Core.List.{List}
use Prim.Native.Nat.{ℕ}
use lib.Ieee.{Format}
use lib.ListN.{get_or}
use borrow.Author.Tests.{eq-eqb, ne_eqb}
use Rattle.number.specs.Bytes.{table}
use Rattle.number.proofs.Tests.{pick_true, pick_false}
use Rattle.float.specs.Floats.{added, multiplied, selected}
use Rattle.lanes.specs.Lanes.{each}
use Rattle.isa.specs.Vecint as Vecint
use Rattle.isa.specs.Vecfp as Vecfp
use Rattle.vecfp.specs.Vectors.{lanes_in, alu_lanes, result_lanes}

-- ---- a lane

module _ (f : Format) (mode x y z : ℕ) where
  in-mode-4 : mode ≡ 4 → selected f x y ≡ Vecfp.alu f mode x y z
  unfolding Vecfp.alu
  in-mode-4 e = sym (pick_true _ _ (eq-eqb mode 4 e))

  module _ (not4 : mode ≡ 4 → ⊥) where
    in-mode-10 : mode ≡ 10 → multiplied f x y ≡ Vecfp.alu f mode x y z
    unfolding Vecfp.alu
    in-mode-10 e = sym (pick_false _ _ (ne_eqb mode 4 not4) ∙ pick_true _ _ (eq-eqb mode 10 e))

    module _ (not10 : mode ≡ 10 → ⊥) where
      in-mode-11 : mode ≡ 11 → added f z x ≡ Vecfp.alu f mode x y z
      unfolding Vecfp.alu
      in-mode-11 e =
          sym (pick_false _ _ (ne_eqb mode 4 not4) ∙ pick_false _ _ (ne_eqb mode 10 not10) ∙ pick_true _ _ (eq-eqb mode 11 e))

      in-mode-12 : (mode ≡ 11 → ⊥) → added f z y ≡ Vecfp.alu f mode x y z
      unfolding Vecfp.alu
      in-mode-12 not11 =
          sym (pick_false _ _ (ne_eqb mode 4 not4) ∙ pick_false _ _ (ne_eqb mode 10 not10) ∙ pick_false _ _ (ne_eqb mode 11 not11))

-- ---- all lanes

-- the rule of a lane
abbrev pub lane_by : Format → ℕ → List ℕ → List ℕ → List ℕ → ℕ → ℕ
lane_by f mode x y z l = Vecfp.alu f mode (get_or x l 0) (get_or y l 0) (get_or z l 0)

-- lists that are made by an operation
abbrev made : ℕ → (ℕ → ℕ → ℕ) → List ℕ → List ℕ → List ℕ
made n op a b = table (each op a b) 0 n

module _ (f : Format) (n : ℕ) (en : n ≡ lanes_in f) (mode : ℕ) (x y z : List ℕ) {r : List ℕ} where
  -- from each lane to all
  all_lanes : (op : ℕ → ℕ) → ((l : ℕ) → op l ≡ lane_by f mode x y z l) → r ≡ table op 0 n → r ≡ alu_lanes f mode x y z
  all_lanes op lane er = er ∙ (λ i. table (λ l. lane l i) 0 (en i))

  pub lanes-4 : mode ≡ 4 → r ≡ made n (selected f) x y → r ≡ alu_lanes f mode x y z
  lanes-4 e = all_lanes _ (λ l. in-mode-4 f mode (get_or x l 0) (get_or y l 0) (get_or z l 0) e)

  pub lanes-10 : (mode ≡ 4 → ⊥) → mode ≡ 10 → r ≡ made n (multiplied f) x y → r ≡ alu_lanes f mode x y z
  lanes-10 not4 e = all_lanes _ (λ l. in-mode-10 f mode (get_or x l 0) (get_or y l 0) (get_or z l 0) not4 e)

  pub lanes-11 : (mode ≡ 4 → ⊥) → (mode ≡ 10 → ⊥) → mode ≡ 11 → r ≡ made n (added f) z x → r ≡ alu_lanes f mode x y z
  lanes-11 not4 not10 e = all_lanes _ (λ l. in-mode-11 f mode (get_or x l 0) (get_or y l 0) (get_or z l 0) not4 not10 e)

  pub lanes-12 : (mode ≡ 4 → ⊥) → (mode ≡ 10 → ⊥) → (mode ≡ 11 → ⊥) → r ≡ made n (added f) z y → r ≡ alu_lanes f mode x y z
  lanes-12 not4 not10 not11 = all_lanes _ (λ l. in-mode-12 f mode (get_or x l 0) (get_or y l 0) (get_or z l 0) not4 not10 not11)

module _ (f : Format) (x y z : List ℕ) {r : List ℕ} where
  module _ (gen op : ℕ) {forced : Bool} (eo : forced ≡ Vecfp.overrides gen op 3 1) where
    pub results-forced : forced ≡ true → r ≡ table (λ l. 0) 0 (lanes_in f) → r ≡ result_lanes f gen op x y z
    results-forced t er =
        er ∙ (λ i. table (λ l. sym (pick_true 0 (lane_by f (Vecint.mode op) x y z l) (sym eo ∙ t)) i) 0 (lanes_in f))

    pub results-made : (mode : ℕ) → forced ≡ false → mode ≡ Vecint.mode op → r ≡ alu_lanes f mode x y z → r ≡ result_lanes f gen op x y z
    results-made mode n em er =
        er ∙ ap (λ (m : ℕ). alu_lanes f m x y z) em
        ∙ (λ i. table (λ l. sym (pick_false 0 (lane_by f (Vecint.mode op) x y z l) (sym eo ∙ n)) i) 0 (lanes_in f))
