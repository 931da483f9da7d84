-- Steps that are there as a whole, with their padding clear: how many come before the first that is not, and steps that are the same bytes.
-- Assumes nothing.
use mathlib.Core.Path.{◌≡◌, refl, sym, ap, subst, ◌∙◌}
use mathlib.Core.Bool.{Bool, true, false, ◌&&◌}
use mathlib.Core.List.{List}
use mathlib.Core.Logic.{⊎_elim}
use Prim.Native.Nat.{ℕ, zero, suc, ◌+◌, ◌≤◌, ◌<◌}
use native.Mathlib.Nat.{add-zero, not-suc-le-zero, le_refl}
use native.Mathlib.Omega.{arith}
use borrow.Author.Tests.{lt-ltb, le-ltb, eq-eqb, eqb-true, le-leb, lt-leb, leb-true}
use lib.Dec.{eqb, leb}
use lib.ListN.{length}
use Rattle.number.specs.Bytes.{byte_at, number}
use Rattle.number.proofs.Tests.{and_left, and_right, is_false, true_false, lt_or_le, pick_true, pick_false, either, two}
use Rattle.number.proofs.Bytes.{number-moved}
use Rattle.isa.specs.Call.{call}
use Rattle.file.specs.declared.FileRefusal.TheVariants.{Contents, Padding}
use Rattle.file.specs.File.{all, step_at, call_at, padding_clear, sound, sound_in, fault_at}

-- ---- one step

module _ (steps : List ℕ) (i : ℕ) where
  abbrev whole : Bool
  whole = leb (step_at (suc i)) (length steps)

  pub sound-there : step_at (suc i) ≤ length steps → padding_clear steps i ≡ true → sound steps i ≡ true
  sound-there h e = λ t. le-leb (step_at (suc i)) (length steps) h t && e t

  pub sound-whole : sound steps i ≡ true → step_at (suc i) ≤ length steps
  sound-whole e = leb-true (step_at (suc i)) (length steps) (and_left whole (padding_clear steps i) e)

  pub sound-clear : sound steps i ≡ true → padding_clear steps i ≡ true
  sound-clear e = and_right whole (padding_clear steps i) e

-- ---- the steps before the first that is not sound

module _ (steps : List ℕ) where
  -- whether the first n are sound, and step n too
  abbrev goes_on : ℕ → Bool
  goes_on n = eqb (sound_in steps n) n && sound steps n

  sound_more : (n : ℕ) → goes_on n ≡ true → sound_in steps (suc n) ≡ suc n
  unfolding sound_in
  sound_more n e = pick_true _ _ e

  sound-stays : (n : ℕ) → goes_on n ≡ false → sound_in steps (suc n) ≡ sound_in steps n
  unfolding sound_in
  sound-stays n e = pick_false _ _ e

  pub sound-most : (n : ℕ) → sound_in steps n ≤ n
  unfolding sound_in
  sound-most zero = le_refl 0
  sound-most (suc n) = either (λ (m : ℕ). m ≤ suc n) (goes_on n) (le_refl (suc n)) (omega (arith, sound-most n))

  pub sound-before : (n j : ℕ) → j < sound_in steps n → sound steps j ≡ true
  unfolding sound_in
  sound-before zero j h = absurd (not-suc-le-zero h)
  sound-before (suc n) j h =
      two (goes_on n) (sound steps j ≡ true)
      (λ t.
      let k : sound_in steps n ≡ n = eqb-true (sound_in steps n) n (and_left (eqb (sound_in steps n) n) (sound steps n) t) in
      ⊎_elim
      (λ less. sound-before n j (omega (arith, k, less)))
      (λ more.
      let same : n ≡ j = omega (arith, h, more, sound_more n t) in
      subst (λ (i : ℕ). sound steps i ≡ true) same (and_right (eqb (sound_in steps n) n) (sound steps n) t))
      (lt_or_le j n))
      (λ f. sound-before n j (omega (arith, h, sound-stays n f)))

  pub sound-fault : (n : ℕ) → sound_in steps n < n → sound steps (sound_in steps n) ≡ false
  unfolding sound_in
  sound-fault zero h = absurd (not-suc-le-zero h)
  sound-fault (suc n) h =
      two (goes_on n) (sound steps (sound_in steps (suc n)) ≡ false)
      (λ t. absurd (omega (arith, h, sound_more n t)))
      (λ f.
      ap (sound steps) (sound-stays n f)
      ∙ ⊎_elim
      (λ less. sound-fault n less)
      (λ more.
      let same : sound_in steps n ≡ n = omega (arith, more, sound-most n) in
      ap (sound steps) same
      ∙ is_false (sound steps n) (λ s. true_false (sym (λ t. eq-eqb (sound_in steps n) n same t && s t) ∙ f)))
      (lt_or_le (sound_in steps n) n))

  pub sound-is : (n k : ℕ) → k ≤ n → ((j : ℕ) → j < k → sound steps j ≡ true) → (k < n → sound steps k ≡ false) → sound_in steps n ≡ k
  sound-is n k h before fault =
      ⊎_elim
      (λ less. absurd (true_false (sym (before (sound_in steps n) less) ∙ sound-fault n (omega (arith, less, h)))))
      (λ least.
      ⊎_elim
      (λ more. absurd (true_false (sym (sound-before n k more) ∙ fault (omega (arith, more, sound-most n)))))
      (λ most. omega (arith, least, most))
      (lt_or_le k (sound_in steps n)))
      (lt_or_le (sound_in steps n) k)

  -- the same, by the branches of the code
  pub sound_none : sound_in steps 0 ≡ 0
  unfolding sound_in
  sound_none = refl

  pub sound-next : (i : ℕ) → sound_in steps i ≡ i → sound steps i ≡ true → sound_in steps (i + 1) ≡ i + 1
  sound-next i e f =
      let next : suc i ≡ i + 1 = omega arith in
      subst (λ (k : ℕ). sound_in steps k ≡ k) next (sound_more i (λ t. eq-eqb (sound_in steps i) i e t && f t))

  pub sound-stop : (n i : ℕ) → i < n → sound_in steps i ≡ i → sound steps i ≡ false → i ≡ sound_in steps n
  sound-stop n i h e f = sym (sound-is n i (omega (arith, h)) (λ j l. sound-before i j (omega (arith, l, e))) (λ _. f))

  pub sound-all : (n i : ℕ) → i ≤ n → n ≤ i → sound_in steps i ≡ i → n ≡ sound_in steps n
  sound-all n i h l e =
      let same : i ≡ n = omega (arith, h, l) in
      subst (λ (k : ℕ). k ≡ sound_in steps k) same (sym e)

-- ---- steps that are the same bytes

all_same : (f g : ℕ → Bool) (n : ℕ) → ((k : ℕ) → k < n → f k ≡ g k) → all f n ≡ all g n
all_same f g zero h = refl
all_same f g (suc n) h =
    let before : all f n ≡ all g n = all_same f g n (λ k l. h k (omega arith)) in
    let last : f n ≡ g n = h n (omega arith) in
    λ t. before t && last t

module _ (s t : List ℕ) (i j : ℕ) (same : (k : ℕ) → k < 16 → byte_at s (step_at i + k) ≡ byte_at t (step_at j + k)) where
  -- the same, from byte p of the step on
  from : (p k : ℕ) → p + k < 16 → byte_at s (step_at i + p + k) ≡ byte_at t (step_at j + p + k)
  from p k h = ap (byte_at s) (omega arith) ∙ same (p + k) h ∙ ap (byte_at t) (omega arith)

  pub padding-moved : padding_clear s i ≡ padding_clear t j
  unfolding padding_clear
  padding-moved =
      all_same (λ k. eqb (byte_at s (step_at i + 2 + k)) 0) (λ k. eqb (byte_at t (step_at j + 2 + k)) 0) 6
      (λ k l. ap (λ (b : ℕ). eqb b 0) (from 2 k (omega (arith, l))))

  pub call-moved : call_at s i ≡ call_at t j
  call-moved = λ p. call (instruction p) (same 1 (omega arith) p) (operand p)
    where
      instruction : byte_at s (step_at i) ≡ byte_at t (step_at j)
      instruction = ap (byte_at s) (sym (add-zero (step_at i))) ∙ same 0 (omega arith) ∙ ap (byte_at t) (add-zero (step_at j))

      operand : number 8 (byte_at s) (step_at i + 8) ≡ number 8 (byte_at t) (step_at j + 8)
      operand = number-moved 8 (byte_at s) (byte_at t) (step_at i + 8) (step_at j + 8) (λ k l. from 8 k (omega (arith, l)))
