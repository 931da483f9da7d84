-- Indices and what they name, by the branches of the code.
-- Assumes nothing.
use mathlib.Core.Path.{◌≡◌, refl, sym, ap, ◌∙◌}
use mathlib.Core.Bool.{Bool, true, false, not}
use Prim.Native.Nat.{ℕ, ◌+◌, ◌*◌, ◌/◌, ◌%◌, ◌^◌}
use native.Mathlib.Nat.{div-one}
use native.Mathlib.Omega.{arith}
use Rattle.number.specs.Bytes.{table}
use Rattle.number.proofs.Tests.{pick_true, pick_false}
use Rattle.isa.specs.Operand.{bit}
use Rattle.isa.specs.Vecint as Vecint
use Rattle.operand.proofs.Branches.{and_on, and_off}
use Rattle.sides.specs.Sides.{lane_bytes}
use Rattle.loads.specs.Loads.{advance_by, indexes_of}

-- ---- the width of an index, as a branch knows it

module _ {four a : Bool} (e : four ≡ a) where
  pub first_by : (k : ℕ) → k * Vecint.index_width a ≡ k * Vecint.index_width four
  first_by k = λ t. k * Vecint.index_width (sym e t)

  pub low_by : (n : ℕ) → n % 2 ^ Vecint.index_width a ≡ n % 2 ^ Vecint.index_width four
  low_by n = λ t. n % 2 ^ Vecint.index_width (sym e t)

  pub picked-by : {wide b : Bool} → wide ≡ b → (packed named : ℕ → ℕ)
      → table (Vecint.picked (lane_bytes b) (Vecint.index_width a) packed named) 0 64
      ≡ table (Vecint.picked (lane_bytes wide) (Vecint.index_width four) packed named) 0 64
  picked-by f packed named = λ t. table (Vecint.picked (lane_bytes (sym f t)) (Vecint.index_width (sym e t)) packed named) 0 64

  pub advanced-by : {wide b : Bool} → wide ≡ b → advance_by a b ≡ advance_by four wide
  advanced-by f = λ t. advance_by (sym e t) (sym f t)

-- ---- the byte that an index names

module _ (packed named : ℕ → ℕ) (n i : ℕ) {wide : Bool} {index : ℕ} where
  pub of-two-bytes : wide ≡ true → index ≡ Vecint.index_at n packed (i / 2)
      → named (2 * index + i % 2) ≡ Vecint.picked (lane_bytes wide) n packed named i
  unfolding Vecint.picked
  of-two-bytes e f =
      ap (λ (x : ℕ). named (2 * x + i % 2)) f ∙ (λ t. Vecint.picked (lane_bytes (sym e t)) n packed named i)

  pub of-one-byte : wide ≡ false → index ≡ Vecint.index_at n packed i → named index ≡ Vecint.picked (lane_bytes wide) n packed named i
  unfolding Vecint.picked
  of-one-byte e f = ap named (f ∙ place) ∙ (λ t. Vecint.picked (lane_bytes (sym e t)) n packed named i)
    where
      place : Vecint.index_at n packed i ≡ 1 * Vecint.index_at n packed (i / 1) + i % 1
      place = omega (arith, ap (Vecint.index_at n packed) (div-one i))

-- ---- the side whose load is indexed

pub not_indexed : (y : Bool) (op : ℕ) → bit op 53 ≡ false → false ≡ indexes_of y op
unfolding Vecint.indexes_x Vecint.indexes_y
not_indexed true op e = and_off (bit op 47) e
not_indexed false op e = and_off (not (bit op 47)) e

module _ {y : Bool} (op : ℕ) (e : bit op 53 ≡ true) where
  pub indexed-y : y ≡ true → bit op 47 ≡ indexes_of y op
  unfolding Vecint.indexes_y
  indexed-y f = and_on _ _ e refl ∙ sym (pick_true _ _ f)

  pub indexed-x : y ≡ false → not (bit op 47) ≡ indexes_of y op
  unfolding Vecint.indexes_x
  indexed-x f = and_on _ _ e refl ∙ sym (pick_false _ _ f)
