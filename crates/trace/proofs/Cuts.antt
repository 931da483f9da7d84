-- The file that a run leaves behind, stopped after any number of its steps, is accepted and goes on with it.
-- Assumes nothing.
use mathlib.Core.Path.{◌≡◌, refl, sym, ap, ◌∙◌}
use mathlib.Core.Bool.{true, false}
use mathlib.Core.List.{List, ◌++◌}
use Prim.Native.Nat.{ℕ, ◌+◌, ◌*◌, ◌≤◌}
use native.Mathlib.Omega.{arith}
use borrow.Author.Tests.{eq-eqb, le-leb}
use lib.ListN.{length, take, length-append}
use Rattle.number.specs.Bytes.{byte_at, number, table, bytes_of}
use Rattle.std.specs.Prelude.{Ok}
use Rattle.file.specs.File.{bytes_from, has_checkpoint, checkpoint_length, contents_length, steps_base, most_steps, step_count, steps_end}
use Rattle.file.specs.File.{registers_in, start_of, steps_in, consumed_in, saved_in, calls, checkpoint_of}
use Rattle.file.specs.File.{entry_is, sections_right, checkpoint_right, contents_right, paddings_clear, opened_as}
use Rattle.file.proofs.Parts.{length_from}
use Rattle.file.proofs.Contents.{length_three, consumed-some, by-second, by-consumed, by-closed}
use Rattle.file.proofs.States.{length-start, resumed-saved}
use Rattle.file.proofs.Accepted.{opened-steps, accepted-count, accepted-most, accepted-paddings}
use Rattle.steps.proofs.Turns.{length_run}
use Rattle.trace.specs.Trace.{calls_in}
use Rattle.trace.specs.Resume.{stopped_at, entry_of, contents_of, cut_at, Resumes, EveryCut}
use Rattle.trace.proofs.Stands.{Stands, stands-whole, stands-front, stands-back, stands_from, stands-number, entry-size, entry-stands}

module _ (whole : List ℕ) (steps : ℕ) (opened : opened_as whole ≡ Ok steps) (k : ℕ) (within : k ≤ steps) where
  abbrev n : ℕ
  n = step_count whole

  abbrev file : List ℕ
  file = cut_at whole k

  abbrev state : List ℕ
  state = stopped_at whole k

  most : n ≤ most_steps
  most = omega (arith, accepted-count whole steps opened, accepted-most whole steps opened)

  fits : k ≤ n
  fits = omega (arith, accepted-count whole steps opened, within)

  length-state : length state ≡ 5128
  length-state = length_run (take k (calls_in whole)) (start_of whole) ∙ length-start whole

  -- ---- the pieces, and where they stand

  abbrev count : List ℕ
  count = bytes_of 4 3

  abbrev one : List ℕ
  one = count ++ entry_of 1 40 5120

  abbrev two : List ℕ
  two = one ++ entry_of 2 5160 (16 * n)

  abbrev table_of : List ℕ
  table_of = contents_of n

  abbrev front : List ℕ
  front = table_of ++ registers_in whole

  abbrev uncut : List ℕ
  uncut = front ++ steps_in whole

  length_front : length front ≡ 5160
  unfolding table
  length_front = length-append table_of (registers_in whole) ∙ ap (λ (m : ℕ). 40 + m) (length_from whole (contents_length whole) 5120)

  length-uncut : length uncut ≡ 5160 + 16 * n
  length-uncut =
      omega (arith, length-append front (steps_in whole), length_front, length_from whole (steps_base whole) (16 * n))

  length-file : length file ≡ 5160 + 16 * n + 5132
  unfolding table
  length-file = omega (arith, length-append uncut (checkpoint_of k state), length-append (bytes_of 4 k) state, length-uncut, length-state)

  uncut-stands : Stands file 0 uncut
  uncut-stands = stands-front file 0 uncut (checkpoint_of k state) (stands-whole file)

  checkpoint-stands : Stands file (5160 + 16 * n) (checkpoint_of k state)
  checkpoint-stands = stands-back file 0 uncut (checkpoint_of k state) (5160 + 16 * n) (omega (arith, length-uncut)) (stands-whole file)

  front-stands : Stands file 0 front
  front-stands = stands-front file 0 front (steps_in whole) uncut-stands

  steps-stand : Stands file 5160 (steps_in whole)
  steps-stand = stands-back file 0 front (steps_in whole) 5160 (omega (arith, length_front)) uncut-stands

  table-stands : Stands file 0 table_of
  table-stands = stands-front file 0 table_of (registers_in whole) front-stands

  registers-stand : Stands file 40 (registers_in whole)
  unfolding table
  registers-stand = stands-back file 0 table_of (registers_in whole) 40 refl front-stands

  two-stand : Stands file 0 two
  two-stand = stands-front file 0 two (entry_of 3 (5160 + 16 * n) 5132) table-stands

  third-stands : Stands file 28 (entry_of 3 (5160 + 16 * n) 5132)
  unfolding table
  third-stands = stands-back file 0 two (entry_of 3 (5160 + 16 * n) 5132) 28 refl table-stands

  one-stands : Stands file 0 one
  one-stands = stands-front file 0 one (entry_of 2 5160 (16 * n)) two-stand

  second-stands : Stands file 16 (entry_of 2 5160 (16 * n))
  unfolding table
  second-stands = stands-back file 0 one (entry_of 2 5160 (16 * n)) 16 refl two-stand

  first-stands : Stands file 4 (entry_of 1 40 5120)
  unfolding table
  first-stands = stands-back file 0 count (entry_of 1 40 5120) 4 refl one-stands

  -- ---- what the file says of itself

  three : has_checkpoint file ≡ true
  three = eq-eqb _ 3 (stands-number file 0 4 3 (omega arith) (stands-front file 0 count (entry_of 1 40 5120) one-stands))

  size : contents_length file ≡ 40
  size = length_three file three

  counted : step_count file ≡ n
  counted =
      let bytes : number 4 (byte_at file) 24 ≡ 16 * n = entry-size file 16 2 5160 (16 * n) second-stands (omega (arith, most)) in
      omega (arith, bytes)

  base : steps_base file ≡ 5160
  base = ap (λ (m : ℕ). m + 5120) size

  end : steps_end file ≡ 5160 + 16 * n
  end = λ i. base i + 16 * counted i

  consumed : consumed_in file ≡ k
  consumed =
      consumed-some file three ∙ ap (number 4 (byte_at file)) end
      ∙ stands-number file (5160 + 16 * n) 4 k (omega (arith, fits, most)) (stands-front file (5160 + 16 * n) (bytes_of 4 k) state checkpoint-stands)

  saved : saved_in file ≡ state
  unfolding table
  saved =
      ap (λ (p : ℕ). bytes_from file (p + 4) 5128) end
      ∙ stands_from file (5160 + 16 * n + 4) state 5128 length-state
      (stands-back file (5160 + 16 * n) (bytes_of 4 k) state (5160 + 16 * n + 4) refl checkpoint-stands)

  registers : registers_in file ≡ registers_in whole
  registers =
      ap (λ (p : ℕ). bytes_from file p 5120) size
      ∙ stands_from file 40 (registers_in whole) 5120 (length_from whole (contents_length whole) 5120) registers-stand

  same-steps : steps_in file ≡ steps_in whole
  same-steps =
      (λ i. bytes_from file (base i) (16 * counted i))
      ∙ stands_from file 5160 (steps_in whole) (16 * n) (length_from whole (steps_base whole) (16 * n)) steps-stand

  -- ---- it is accepted

  sections : sections_right file ≡ true
  sections =
      sym (by-second file (le-leb (step_count file) most_steps (omega (arith, counted, most)))
      (ap (λ (m : ℕ). entry_is file 4 1 m 5120) size ∙ entry-stands file 4 1 40 5120 first-stands (omega arith) (omega arith) (omega arith)))
      ∙ (λ i. entry_is file 16 2 (base i) (16 * counted i))
      ∙ entry-stands file 16 2 5160 (16 * n) second-stands (omega arith) (omega arith) (omega (arith, most))

  checkpoint : checkpoint_right file ≡ true
  checkpoint =
      sym (by-consumed file
      (ap (λ (m : ℕ). entry_is file 28 3 m 5132) end
      ∙ entry-stands file 28 3 (5160 + 16 * n) 5132 third-stands (omega arith) (omega (arith, most)) (omega arith)))
      ∙ le-leb (consumed_in file) (step_count file) (omega (arith, consumed, counted, fits))

  right : contents_right file ≡ true
  right =
      sym (by-closed file sections three checkpoint)
      ∙ eq-eqb (length file) (steps_end file + checkpoint_length) (length-file ∙ sym (ap (λ (m : ℕ). m + 5132) end))

  accepted : opened_as file ≡ Ok steps
  accepted =
      sym (opened-steps file (omega (arith, size, length-file)) right
      ((λ i. paddings_clear (same-steps i) (counted i)) ∙ accepted-paddings whole steps opened))
      ∙ ap Ok (counted ∙ accepted-count whole steps opened)

  goes_on : has_checkpoint whole ≡ false → Resumes file whole
  goes_on plain = record {
    uncut = plain;
    registers = registers;
    steps = λ i. calls (same-steps i) (counted i);
    saved = resumed-saved file three ∙ saved ∙ ap (stopped_at whole) (sym consumed);
  }

pub every-cut : EveryCut
every-cut whole steps opened plain k within = (
  accepted whole steps opened k within,
  consumed whole steps opened k within,
  goes_on whole steps opened k within plain,
)
