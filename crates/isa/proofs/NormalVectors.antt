-- What vecint and vecfp read of the fields of several vectors, in an operand and in another that agrees with it where they count.
-- Assumes nothing.
use mathlib.Core.Path.{◌≡◌, sym, ap, ap₂, ◌∙◌}
use mathlib.Core.Bool.{Bool, false, cond, not, ◌&&◌, ◌||◌}
use Prim.Native.Nat.{ℕ}
use lib.Dec.{eqb}
use borrow.Author.Tests.{eqb-true}
use Rattle.isa.specs.Operand.{bits}
use Rattle.isa.specs.Vecint as Vecint
use Rattle.number.proofs.Tests.{two, pick_true, pick_false}

module _ (gen op kept : ℕ)
    (later : eqb gen 1 ≡ false → bits kept 31 31 ≡ bits op 31 31)
    (four : bits kept 25 25 ≡ bits op 25 25)
    (broadcast : bits kept 32 34 ≡ bits op 32 34)
    (enable : Vecint.several gen op ≡ false → bits kept 38 40 ≡ bits op 38 40) where
  pub several-same : Vecint.several gen kept ≡ Vecint.several gen op
  several-same =
      two (eqb gen 2) (Vecint.several gen kept ≡ Vecint.several gen op)
      (λ t. ap (λ (n : ℕ). eqb gen 2 && eqb n 1) (later (ap (λ (g : ℕ). eqb g 1) (eqb-true gen 2 t))))
      (λ t. rw t)

  pub stride-same : Vecint.stride gen kept ≡ Vecint.stride gen op
  unfolding Vecint.stride
  stride-same = λ t. cond (several-same t) (cond (eqb (four t) 1) 16 32) 64

  pub broadcasts-same : (a b : ℕ) → Vecint.broadcasts gen kept a b ≡ Vecint.broadcasts gen op a b
  unfolding Vecint.broadcasts
  broadcasts-same a b = λ t. several-same t && (eqb (broadcast t) a || eqb (broadcast t) b)

  -- what counts for one vector alone need agree there alone: a mask, the value of an override, the lane of Y that is used for every lane
  pub enabled-same : (p q : Bool) → (Vecint.several gen op ≡ false → p ≡ q) → (Vecint.several gen kept || p) ≡ (Vecint.several gen op || q)
  enabled-same p q same =
      two (Vecint.several gen op) ((Vecint.several gen kept || p) ≡ (Vecint.several gen op || q))
      (λ s. ap (λ (b : Bool). b || p) (several-same ∙ s) ∙ sym (ap (λ (b : Bool). b || q) s))
      (λ s. ap₂ ◌||◌ several-same (same s))

  pub overrides-same : (n m : ℕ) → (Vecint.several gen op ≡ false → n ≡ m)
      → (value mode : ℕ) → Vecint.overrides_by gen kept n value mode ≡ Vecint.overrides_by gen op m value mode
  overrides-same n m same value mode =
      two (Vecint.several gen op) (Vecint.overrides_by gen kept n value mode ≡ Vecint.overrides_by gen op m value mode)
      (λ s. pick_true _ _ (several-same ∙ s) ∙ ap (λ (k : ℕ). eqb k mode) broadcast ∙ sym (pick_true _ _ s))
      (λ s. λ t. cond (several-same t) (eqb (broadcast t) mode) (eqb (enable s t) 0 && eqb (same s t) value))

  pub fixed_same : (n m k l : ℕ) → (Vecint.several gen op ≡ false → n ≡ m) → k ≡ l
      → cond (not (Vecint.several gen kept) && eqb (Vecint.enable_mode kept) 1) n k ≡ cond (not (Vecint.several gen op) && eqb (Vecint.enable_mode op) 1) m l
  fixed_same n m k l same e =
      two (Vecint.several gen op)
      (cond (not (Vecint.several gen kept) && eqb (Vecint.enable_mode kept) 1) n k
      ≡ cond (not (Vecint.several gen op) && eqb (Vecint.enable_mode op) 1) m l)
      (λ s. pick_false _ _ (ap (λ (b : Bool). not b && eqb (Vecint.enable_mode kept) 1) (several-same ∙ s)) ∙ e
      ∙ sym (pick_false _ _ (ap (λ (b : Bool). not b && eqb (Vecint.enable_mode op) 1) s)))
      (λ s. λ t. cond (not (several-same t) && eqb (enable s t) 1) (same s t) (e t))
