-- The table of contents, by the branches of the code.
-- Assumes nothing.
use mathlib.Core.Path.{◌≡◌, sym, ◌∙◌}
use mathlib.Core.Bool.{Bool, true, false, cond, ◌&&◌}
use mathlib.Core.List.{List}
use Prim.Native.Nat.{ℕ, ◌+◌, ◌*◌, ◌≤◌}
use native.Mathlib.Omega.{arith}
use borrow.Author.Tests.{eq-eqb, ne_eqb, leb-true, eqb-true}
use lib.Dec.{eqb, leb}
use lib.ListN.{length}
use Rattle.number.specs.Bytes.{byte_at, number}
use Rattle.number.proofs.Tests.{and_left, and_right, pick_true, pick_false, either, two}
use Rattle.isa.specs.State.{register_bytes}
use Rattle.file.specs.File.{has_checkpoint, checkpoint_length, contents_length, steps_base, step_bytes, most_steps, step_count}
use Rattle.file.specs.File.{steps_end, consumed_in, entry_is, third_is, two_sections, sections_right, checkpoint_right, table_right, contents_right}

-- ---- where things lie

module _ (file : List ℕ) where
  pub length_two : has_checkpoint file ≡ false → contents_length file ≡ 28
  length_two = pick_false 40 28

  pub length_three : has_checkpoint file ≡ true → contents_length file ≡ 40
  length_three = pick_true 40 28

  pub length-least : 28 ≤ contents_length file
  length-least = either (λ (n : ℕ). 28 ≤ n) (has_checkpoint file) (omega arith) (omega arith)

  pub length_most : contents_length file ≤ 40
  length_most = either (λ (n : ℕ). n ≤ 40) (has_checkpoint file) (omega arith) (omega arith)

  pub consumed-none : has_checkpoint file ≡ false → consumed_in file ≡ 0
  consumed-none = pick_false _ 0

  pub consumed-some : has_checkpoint file ≡ true → consumed_in file ≡ number 4 (byte_at file) (steps_end file)
  consumed-some = pick_true _ 0

  -- ---- the table

  abbrev first : Bool
  first = entry_is file 4 1 (contents_length file) register_bytes

  abbrev second : Bool
  second = entry_is file 16 2 (steps_base file) (step_bytes * step_count file)

  abbrev few : Bool
  few = leb (step_count file) most_steps

  abbrev third : Bool
  third = third_is file

  abbrev within : Bool
  within = leb (consumed_in file) (step_count file)

  abbrev closed : Bool
  closed = eqb (length file) (steps_end file + checkpoint_length)

  abbrev counted : Bool
  counted = two_sections file

  abbrev ended : Bool
  ended = eqb (length file) (steps_end file)

  abbrev behind : Bool
  behind = cond (has_checkpoint file) (checkpoint_right file && closed) (counted && ended)

  pub by-second : few ≡ true → first ≡ true → second ≡ sections_right file
  unfolding sections_right
  by-second a b = sym (λ t. a t && b t && second)

  -- the whole table
  pub table-other : sections_right file ≡ false → false ≡ table_right file
  unfolding table_right
  table-other a = sym (λ t. a t && cond (has_checkpoint file) third counted)

  pub table-three : sections_right file ≡ true → has_checkpoint file ≡ true → third ≡ table_right file
  unfolding table_right
  table-three a b = sym (λ t. a t && cond (b t) third counted)

  pub table-two : sections_right file ≡ true → has_checkpoint file ≡ false → counted ≡ table_right file
  unfolding table_right
  table-two a b = sym (λ t. a t && cond (b t) third counted)

  -- the same with what was consumed, and with the length of the file
  pub by-consumed : third ≡ true → within ≡ checkpoint_right file
  unfolding checkpoint_right
  by-consumed a = sym (λ t. a t && within)

  pub other-checkpoint : sections_right file ≡ true → has_checkpoint file ≡ true → checkpoint_right file ≡ false → false ≡ contents_right file
  unfolding contents_right
  other-checkpoint a b d = sym (λ t. a t && cond (b t) (d t && closed) (counted && ended))

  pub by-closed : sections_right file ≡ true → has_checkpoint file ≡ true → checkpoint_right file ≡ true → closed ≡ contents_right file
  unfolding contents_right
  by-closed a b d = sym (λ t. a t && cond (b t) (d t && closed) (counted && ended))

  -- ---- what a right table says

  pub sections-most : sections_right file ≡ true → step_count file ≤ most_steps
  unfolding sections_right
  sections-most e = leb-true (step_count file) most_steps (and_left few first (and_left (few && first) second e))

  pub table-most : table_right file ≡ true → step_count file ≤ most_steps
  unfolding table_right
  table-most e = sections-most (and_left (sections_right file) (cond (has_checkpoint file) third counted) e)

  module _ (e : contents_right file ≡ true) where
    contents-sections : sections_right file ≡ true
    unfolding contents_right
    contents-sections = and_left (sections_right file) behind e

    contents-behind : behind ≡ true
    unfolding contents_right
    contents-behind = and_right (sections_right file) behind e

    pub contents-most : step_count file ≤ most_steps
    contents-most = sections-most contents-sections

    module _ (b : has_checkpoint file ≡ true) where
      three : checkpoint_right file && closed ≡ true
      three = sym (pick_true (checkpoint_right file && closed) (counted && ended) b) ∙ contents-behind

      pub contents-three : length file ≡ steps_end file + checkpoint_length
      contents-three = eqb-true (length file) (steps_end file + checkpoint_length) (and_right (checkpoint_right file) closed three)

      contents-checkpoint : third && within ≡ true
      unfolding checkpoint_right
      contents-checkpoint = and_left (checkpoint_right file) closed three

      consumed-three : consumed_in file ≤ step_count file
      consumed-three = leb-true (consumed_in file) (step_count file) (and_right third within contents-checkpoint)

    module _ (b : has_checkpoint file ≡ false) where
      two-sections : counted && ended ≡ true
      two-sections = sym (pick_false (checkpoint_right file && closed) (counted && ended) b) ∙ contents-behind

      pub contents-two : length file ≡ steps_end file
      contents-two = eqb-true (length file) (steps_end file) (and_right counted ended two-sections)

    pub contents-consumed : consumed_in file ≤ step_count file
    contents-consumed =
        two (has_checkpoint file) (consumed_in file ≤ step_count file) consumed-three (λ b. omega (arith, consumed-none b))

    pub contents-end : steps_end file ≤ length file
    contents-end =
        two (has_checkpoint file) (steps_end file ≤ length file) (λ b. omega (arith, contents-three b)) (λ b. omega (arith, contents-two b))

    pub contents-table : table_right file ≡ true
    contents-table =
        two (has_checkpoint file) (table_right file ≡ true)
        (λ b. sym (table-three contents-sections b) ∙ and_left third within (contents-checkpoint b))
        (λ b. sym (table-two contents-sections b) ∙ and_left counted ended (two-sections b))
