-- The head of a file, and the bytes behind its steps, by the branches of the code; and what is known of a head that is accepted.
-- Assumes nothing.
use mathlib.Core.Path.{◌≡◌, sym, ap, subst, ◌∙◌}
use mathlib.Core.Bool.{Bool, true, false, not, ◌&&◌}
use mathlib.Core.List.{List}
use mathlib.Core.Logic.{⊎_elim}
use Prim.Native.Nat.{ℕ, ◌≤◌, ◌<◌}
use native.Mathlib.Omega.{arith}
use borrow.Author.Tests.{lt-ltb, le-ltb, eq-eqb, ne_eqb, le-leb, lt-leb}
use lib.Dec.{eqb, leb}
use lib.ListN.{length}
use Rattle.number.specs.Bytes.{byte_at, number}
use Rattle.number.proofs.Tests.{pick_true, pick_false, lt_or_le, two}
use Rattle.file.specs.declared.FileRefusal.TheVariants.{Short, Contents, Padding}
use Rattle.std.specs.Prelude.{Ok, Err}
use Rattle.file.specs.File.{checkpoint_length, contents_length, steps_base, most_steps, step_count, table_right, head_as, opened_as, closed_as}
use Rattle.file.proofs.Contents.{table-most, contents-end, contents-table}
use Rattle.file.proofs.Accepted.{not_both, same-steps, accepted-long, accepted-contents, accepted-count}

-- ---- the head, by the branches

module _ (head : List ℕ) where
  pub head_short : length head < contents_length head → Err Short ≡ head_as head
  unfolding head_as
  head_short h = sym (pick_true _ _ (lt-ltb (length head) (contents_length head) h))

  module _ (long : contents_length head ≤ length head) where
    pub head-contents : table_right head ≡ false → Err Contents ≡ head_as head
    unfolding head_as
    head-contents e = sym (pick_false _ _ (le-ltb (length head) (contents_length head) long) ∙ pick_true _ _ (ap not e))

    pub head-cut : table_right head ≡ true → length head < steps_base head → Err Contents ≡ head_as head
    unfolding head_as
    head-cut e h =
        sym
        (pick_false _ _ (le-ltb (length head) (contents_length head) long) ∙ pick_false _ _ (ap not e)
        ∙ pick_true _ _ (lt-ltb (length head) (steps_base head) h))

    pub head-steps : table_right head ≡ true → steps_base head ≤ length head → Ok (step_count head) ≡ head_as head
    unfolding head_as
    head-steps e h =
        sym
        (pick_false _ _ (le-ltb (length head) (contents_length head) long) ∙ pick_false _ _ (ap not e)
        ∙ pick_false _ _ (le-ltb (length head) (steps_base head) h))

-- ---- a head that is accepted

module _ (head : List ℕ) (n : ℕ) (opened : head_as head ≡ Ok n) where
  long : contents_length head ≤ length head
  long = ⊎_elim (λ h. absurd (not_both (head_short head h) opened)) (λ h. h) (lt_or_le (length head) (contents_length head))

  pub head-table : table_right head ≡ true
  head-table = two (table_right head) (table_right head ≡ true) (λ t. t) (λ f. absurd (not_both (head-contents head long f) opened))

  pub head-base : steps_base head ≤ length head
  head-base =
      ⊎_elim (λ h. absurd (not_both (head-cut head long head-table h) opened)) (λ h. h) (lt_or_le (length head) (steps_base head))

  pub head-count : step_count head ≡ n
  head-count = same-steps (head-steps head long head-table head-base) opened

  pub head-most : n ≤ most_steps
  head-most = subst (λ (k : ℕ). k ≤ most_steps) head-count (table-most head head-table)

-- that of an accepted file
pub opened_head : (file : List ℕ) (n : ℕ) → opened_as file ≡ Ok n → head_as file ≡ Ok n
opened_head file n e =
    let right = accepted-contents file n e in
    sym (head-steps file (accepted-long file n e) (contents-table file right) (omega (arith, contents-end file right)))
    ∙ ap Ok (accepted-count file n e)

-- ---- the bytes behind the steps, by the branches

module _ (last : List ℕ) (n : ℕ) (clear : Bool) where
  pub close_other : (length last ≡ checkpoint_length → ⊥) → Err Contents ≡ closed_as last n clear
  unfolding closed_as
  close_other f =
      sym (pick_true _ _ (λ t. not (ne_eqb (length last) checkpoint_length f t && leb (number 4 (byte_at last) 0) n)))

  module _ (e : length last ≡ checkpoint_length) where
    pub close-consumed : n < number 4 (byte_at last) 0 → Err Contents ≡ closed_as last n clear
    unfolding closed_as
    close-consumed h =
        sym (pick_true _ _ (λ t. not (eq-eqb (length last) checkpoint_length e t && lt-leb (number 4 (byte_at last) 0) n h t)))

    module _ (h : number 4 (byte_at last) 0 ≤ n) where
      right : not (eqb (length last) checkpoint_length && leb (number 4 (byte_at last) 0) n) ≡ false
      right = λ t. not (eq-eqb (length last) checkpoint_length e t && le-leb (number 4 (byte_at last) 0) n h t)

      pub close-padding : clear ≡ false → Err Padding ≡ closed_as last n clear
      unfolding closed_as
      close-padding f = sym (pick_false _ _ right ∙ pick_true _ _ (ap not f))

      pub close-steps : clear ≡ true → Ok n ≡ closed_as last n clear
      unfolding closed_as
      close-steps f = sym (pick_false _ _ right ∙ pick_false _ _ (ap not f))
