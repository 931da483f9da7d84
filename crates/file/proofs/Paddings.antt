-- The padding of steps, by the branches of the code.
-- Assumes nothing.
use mathlib.Core.Path.{◌≡◌, refl, sym, ap, subst, ◌∙◌}
use mathlib.Core.Bool.{Bool, true, false, ◌&&◌}
use mathlib.Core.List.{List}
use mathlib.Core.Logic.{⊎_elim}
use Prim.Native.Nat.{ℕ, zero, suc, ◌+◌, ◌*◌, ◌<◌, suc-le-suc}
use native.Mathlib.Nat.{add-zero, add-suc, suc-add, zero-lt-suc, not-suc-le-zero, le_of_suc-le-suc}
use native.Mathlib.Omega.{arith}
use borrow.Author.Tests.{eq-eqb, eqb-true, eqb-false}
use lib.Dec.{eqb}
use Rattle.number.specs.Bytes.{byte_at, number}
use Rattle.number.proofs.Tests.{and_left, and_right, is_false, lt_or_le, two}
use Rattle.number.proofs.Slice.{number-add}
use Rattle.file.specs.File.{all, step_at, padding_clear, paddings_clear}

-- ---- all of the first n

module _ (f : ℕ → Bool) where
  pub all-at : (n : ℕ) → all f n ≡ true → (k : ℕ) → k < n → f k ≡ true
  all-at zero e k h = absurd (not-suc-le-zero h)
  all-at (suc n) e k h =
      ⊎_elim
      (λ less. all-at n (and_left (all f n) (f n) e) k less)
      (λ more.
      let same : n ≡ k = omega arith in
      subst (λ (j : ℕ). f j ≡ true) same (and_right (all f n) (f n) e))
      (lt_or_le k n)

  pub all_true : (n : ℕ) → ((k : ℕ) → k < n → f k ≡ true) → all f n ≡ true
  all_true zero h = refl
  all_true (suc n) h =
      let before : all f n ≡ true = all_true n (λ k l. h k (omega arith)) in
      let last : f n ≡ true = h n (omega arith) in
      λ t. before t && last t

-- ---- bytes that are all 0 are those of the number 0

module _ (f : ℕ → ℕ) where
  number-zero : (b p : ℕ) → ((k : ℕ) → k < b → f (p + k) ≡ 0) → number b f p ≡ 0
  unfolding number
  number-zero zero p h = refl
  number-zero (suc b) p h =
      let low : f p ≡ 0 = rw add-zero at (h 0 (zero-lt-suc b)) in
      let rest : number b f (suc p) ≡ 0 = number-zero b (suc p) (λ k l. rw (add-suc, ← suc-add) at (h (suc k) (suc-le-suc l))) in
      omega arith

  zero-bytes : (b p : ℕ) → number b f p ≡ 0 → (k : ℕ) → k < b → f (p + k) ≡ 0
  unfolding number
  zero-bytes zero p e k h = absurd (not-suc-le-zero h)
  zero-bytes (suc b) p e zero h = ap f (add-zero p) ∙ omega arith
  zero-bytes (suc b) p e (suc k) h =
      let rest : number b f (suc p) ≡ 0 = omega arith in
      ap f (add-suc p k ∙ sym (suc-add p k)) ∙ zero-bytes b (suc p) rest k (le_of_suc-le-suc h)

  abbrev clear : ℕ → ℕ → Bool
  clear b p = all (λ k. eqb (f (p + k)) 0) b

  bytes-clear : (b p : ℕ) → number b f p ≡ 0 → clear b p ≡ true
  bytes-clear b p e = all_true (λ k. eqb (f (p + k)) 0) b (λ k l. eq-eqb (f (p + k)) 0 (zero-bytes b p e k l))

  bytes-not-clear : (b p : ℕ) → (number b f p ≡ 0 → ⊥) → clear b p ≡ false
  bytes-not-clear b p e =
      is_false (clear b p)
      (λ t. e (number-zero b p (λ k l. eqb-true (f (p + k)) 0 (all-at (λ j. eqb (f (p + j)) 0) b t k l))))

-- ---- one step's

module _ (steps : List ℕ) (i : ℕ) where
  abbrev pair : ℕ
  pair = number 2 (byte_at steps) (step_at i + 2)

  abbrev quartet : ℕ
  quartet = number 4 (byte_at steps) (step_at i + 2 + 2)

  parts : number 6 (byte_at steps) (step_at i + 2) ≡ pair + 65536 * quartet
  parts = number-add 2 4 (byte_at steps) (step_at i + 2)

  pub pair_set : (n : ℕ) → n ≡ pair → (n ≡ 0 → ⊥) → false ≡ padding_clear steps i
  unfolding padding_clear
  pair_set n e f = sym (bytes-not-clear (byte_at steps) 6 (step_at i + 2) (λ g. f (omega (arith, e, g, parts))))

  pub by-quartet : (n m : ℕ) → n ≡ pair → n ≡ 0 → m ≡ quartet → eqb m 0 ≡ padding_clear steps i
  unfolding padding_clear
  by-quartet n m e z f =
      two (eqb m 0) (eqb m 0 ≡ clear (byte_at steps) 6 (step_at i + 2))
      (λ t.
      let none : m ≡ 0 = eqb-true m 0 t in
      t ∙ sym (bytes-clear (byte_at steps) 6 (step_at i + 2) (omega (arith, e, z, f, none, parts))))
      (λ t.
      t ∙ sym (bytes-not-clear (byte_at steps) 6 (step_at i + 2) (λ g. eqb-false m 0 t (omega (arith, f, g, parts)))))

-- ---- all steps'

module _ (steps : List ℕ) where
  pub paddings-none : paddings_clear steps 0 ≡ true
  unfolding paddings_clear
  paddings-none = refl
