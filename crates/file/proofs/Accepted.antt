-- Opening a file, by the branches of the code; and what is known of a file that is accepted.
-- Assumes nothing.
use mathlib.Core.Path.{◌≡◌, sym, ap, subst, ◌∙◌}
use mathlib.Core.Bool.{Bool, true, false, not}
use mathlib.Core.List.{List}
use mathlib.Core.Logic.{⊎_elim}
use Prim.Native.Nat.{ℕ, ◌≤◌, ◌<◌}
use borrow.Author.Tests.{lt-ltb, le-ltb}
use lib.ListN.{length}
use Rattle.number.proofs.Tests.{pick_true, pick_false, lt_or_le, two}
use Rattle.file.specs.declared.FileRefusal.{FileRefusal}
use Rattle.file.specs.declared.FileRefusal.TheVariants.{Short, Contents, Padding}
use Rattle.std.specs.Prelude.{Result, Ok, Err}
use Rattle.file.specs.File.{contents_length, most_steps, step_count, steps_in, consumed_in, contents_right, paddings_clear, opened_as}
use Rattle.file.proofs.Contents.{contents-most, contents-consumed}

-- ---- by the branches

module _ (file : List ℕ) where
  pub opened-short : length file < contents_length file → Err Short ≡ opened_as file
  unfolding opened_as
  opened-short h = sym (pick_true _ _ (lt-ltb (length file) (contents_length file) h))

  module _ (long : contents_length file ≤ length file) where
    pub opened-contents : contents_right file ≡ false → Err Contents ≡ opened_as file
    unfolding opened_as
    opened-contents e = sym (pick_false _ _ (le-ltb (length file) (contents_length file) long) ∙ pick_true _ _ (ap not e))

    pub opened-padding : contents_right file ≡ true → paddings_clear (steps_in file) (step_count file) ≡ false → Err Padding ≡ opened_as file
    unfolding opened_as
    opened-padding e f =
        sym (pick_false _ _ (le-ltb (length file) (contents_length file) long) ∙ pick_false _ _ (ap not e) ∙ pick_true _ _ (ap not f))

    pub opened-steps : contents_right file ≡ true → paddings_clear (steps_in file) (step_count file) ≡ true → Ok (step_count file) ≡ opened_as file
    unfolding opened_as
    opened-steps e f =
        sym (pick_false _ _ (le-ltb (length file) (contents_length file) long) ∙ pick_false _ _ (ap not e) ∙ pick_false _ _ (ap not f))

-- ---- an accepted file

pub not_both : {o : Result ℕ FileRefusal} {n : ℕ} {r : FileRefusal} → Err r ≡ o → o ≡ Ok n → ⊥
not_both e f = cc

pub same-steps : {o : Result ℕ FileRefusal} {n m : ℕ} → Ok n ≡ o → o ≡ Ok m → n ≡ m
same-steps e f = cc

module _ (file : List ℕ) (n : ℕ) (opened : opened_as file ≡ Ok n) where
  pub accepted-long : contents_length file ≤ length file
  accepted-long = ⊎_elim (λ h. absurd (not_both (opened-short file h) opened)) (λ h. h) (lt_or_le (length file) (contents_length file))

  pub accepted-contents : contents_right file ≡ true
  accepted-contents =
      two (contents_right file) (contents_right file ≡ true) (λ t. t) (λ f. absurd (not_both (opened-contents file accepted-long f) opened))

  pub accepted-paddings : paddings_clear (steps_in file) (step_count file) ≡ true
  accepted-paddings =
      two (paddings_clear (steps_in file) (step_count file)) (paddings_clear (steps_in file) (step_count file) ≡ true) (λ t. t)
      (λ f. absurd (not_both (opened-padding file accepted-long accepted-contents f) opened))

  pub accepted-count : step_count file ≡ n
  accepted-count = same-steps (opened-steps file accepted-long accepted-contents accepted-paddings) opened

  pub accepted-most : n ≤ most_steps
  accepted-most = subst (λ (k : ℕ). k ≤ most_steps) accepted-count (contents-most file accepted-contents)

  pub accepted-consumed : consumed_in file ≤ n
  accepted-consumed = subst (λ (k : ℕ). consumed_in file ≤ k) accepted-count (contents-consumed file accepted-contents)
