-- Steps that are all sound, and the text of a file that is sound as a whole.
-- Assumes nothing.
use mathlib.Core.Path.{◌≡◌, refl, sym, ap, ◌∙◌}
use mathlib.Core.Bool.{true, false}
use mathlib.Core.List.{List, ◌++◌, append_assoc}
use Prim.Native.Nat.{ℕ, ◌+◌, ◌-◌, ◌*◌, ◌≤◌, ◌<◌}
use native.Mathlib.Omega.{arith}
use borrow.Author.Tests.{eq-eqb, le-ltb}
use lib.ListN.{length, drop, length-drop}
use lib.Seq.{take_all}
use Rattle.number.specs.Bytes.{byte_at}
use Rattle.number.proofs.Tests.{pick_true, pick_false, two}
use Rattle.isa.specs.Step.{run}
use Rattle.std.specs.Prelude.{Ok}
use Rattle.file.specs.File.{bytes_from, has_checkpoint, steps_base, step_at, step_count, registers_in, start_of, steps_in, consumed_in, resumed_from}
use Rattle.file.specs.File.{sound_in, calls, padding_clear, paddings_clear, opened_as}
use Rattle.file.proofs.Sound.{sound-is, sound-there, padding-moved}
use Rattle.file.proofs.Paddings.{all-at, all_true}
use Rattle.file.proofs.Parts.{length_from, byte-from, part-between}
use Rattle.file.proofs.Records.{calls-rest}
use Rattle.file.proofs.Contents.{consumed-none, contents-two}
use Rattle.file.proofs.States.{resumed-start}
use Rattle.file.proofs.Accepted.{accepted-contents, accepted-count, accepted-consumed, accepted-paddings}
use Rattle.file.proofs.Heads.{opened_head}
use Rattle.text.specs.Lines.{steps_line}
use Rattle.steps.specs.Steps.{step_lines}
use Rattle.trace.specs.Trace.{z_lines, text_read, remaining, accepted_text, checked_text, streamed_text, text_of, Unchanged}
use Rattle.trace.specs.Reading.{again_text, shown, left_in, ReadTwice}
use Rattle.trace.proofs.Divided.{behind, by-sound}

-- ---- all n are sound, and nothing is behind them

module _ (registers : List ℕ) (n i : ℕ) (s bytes : List ℕ) (size : length bytes ≡ 16 * n) (clear : paddings_clear bytes n ≡ true) where
  clear_at : (j : ℕ) → j < n → padding_clear bytes j ≡ true
  unfolding paddings_clear
  clear_at j h = all-at (padding_clear bytes) n clear j h

  pub all_sound : sound_in bytes n ≡ n
  all_sound =
      sound-is bytes n n (omega arith) (λ j h. sound-there bytes j (omega (arith, h, size)) (clear_at j h)) (λ h. absurd (omega (arith, h)))

  abbrev end : List ℕ
  end = run (calls bytes n) s

  none-behind : behind registers i s bytes n n ≡ z_lines registers end ++ steps_line (i + n)
  none-behind =
      pick_false _ _ (le-ltb n n (omega arith))
      ∙ pick_true _ _ (eq-eqb (length (drop (step_at n) bytes)) 0 (omega (arith, length-drop (16 * n) bytes, size)))

  pub read-sound : text_read registers n i s bytes ≡ step_lines (calls bytes n) i s ++ z_lines registers end ++ steps_line (i + n)
  read-sound =
      by-sound registers i s bytes n n all_sound ∙ ap (λ (xs : List ℕ). step_lines (calls bytes n) i s ++ xs) none-behind
      ∙ sym (append_assoc (step_lines (calls bytes n) i s) (z_lines registers end) (steps_line (i + n)))

-- ---- a file that is sound as a whole

module _ (file : List ℕ) (n : ℕ) (opened : opened_as file ≡ Ok n) where
  abbrev k : ℕ
  k = consumed_in file

  counted : step_count file ≡ n
  counted = accepted-count file n opened

  within : k ≤ n
  within = accepted-consumed file n opened

  size-left : length (left_in file n) ≡ 16 * (n - k)
  size-left = length_from file (steps_base file + 16 * k) (16 * (n - k))

  left-calls : calls (left_in file n) (n - k) ≡ remaining file
  left-calls =
      calls-rest file (steps_base file) n k within ∙ ap (λ (m : ℕ). drop k (calls (bytes_from file (steps_base file) (16 * m)) m)) (sym counted)

  left-clear : paddings_clear (left_in file n) (n - k) ≡ true
  unfolding paddings_clear
  left-clear =
      all_true (padding_clear (left_in file n)) (n - k)
      (λ j h.
      padding-moved (left_in file n) (steps_in file) j (k + j)
      (λ b l.
      let place : steps_base file + 16 * k + (16 * j + b) ≡ steps_base file + (16 * (k + j) + b) = omega arith in
      byte-from file (steps_base file + 16 * k) (16 * (n - k)) (16 * j + b) (omega (arith, h, l)) ∙ ap (byte_at file) place
      ∙ sym (byte-from file (steps_base file) (16 * step_count file) (16 * (k + j) + b) (omega (arith, h, l, counted))))
      ∙ all-at (padding_clear (steps_in file)) (step_count file) (accepted-paddings file n opened) (k + j) (omega (arith, h, counted)))

  -- what is left of it, as it is read
  pub read_left : text_read (registers_in file) (n - k) k (resumed_from file) (left_in file n) ≡ accepted_text file n
  read_left =
      let last : k + (n - k) ≡ n = omega (arith, within) in
      read-sound (registers_in file) (n - k) k (resumed_from file) (left_in file n) size-left left-clear
      ∙ (λ t.
      step_lines (left-calls t) k (resumed_from file) ++ z_lines (registers_in file) (run (left-calls t) (resumed_from file)) ++ steps_line (last t))

  module _ (two-sections : has_checkpoint file ≡ false) where
    rest-left : drop (steps_base file) file ≡ left_in file n
    rest-left =
        let base : ℕ = steps_base file in
        let ends : length file ≡ base + 16 * n = contents-two file (accepted-contents file n opened) two-sections ∙ ap (λ (m : ℕ). base + 16 * m) counted in
        let whole : length (drop base file) ≤ base + 16 * n - base = omega (arith, ends, length-drop base file) in
        let place : base ≡ base + 16 * k = omega (arith, consumed-none file two-sections) in
        let count : 16 * n ≡ 16 * (n - k) = omega (arith, consumed-none file two-sections) in
        sym (take_all (base + 16 * n - base) (drop base file) whole)
        ∙ part-between file base (base + 16 * n) (16 * n) refl (omega (arith, ends)) ∙ (λ t. bytes_from file (place t) (count t))

    streamed : text_read (registers_in file) n 0 (start_of file) (drop (steps_base file) file) ≡ accepted_text file n
    streamed =
        let none = consumed-none file two-sections in
        let count : n ≡ n - k = omega (arith, none) in
        (λ t. text_read (registers_in file) (count t) (sym none t) (sym (resumed-start file two-sections) t) (rest-left t)) ∙ read_left

    text-two : text_of file ≡ accepted_text file n
    unfolding text_of
    text-two = pick_false _ _ two-sections ∙ ap (streamed_text file) (opened_head file n opened) ∙ streamed

  text-three : has_checkpoint file ≡ true → text_of file ≡ accepted_text file n
  unfolding text_of
  text-three three = pick_true _ _ three ∙ ap (checked_text file) opened

  text-accepted : text_of file ≡ accepted_text file n
  text-accepted = two (has_checkpoint file) (text_of file ≡ accepted_text file n) text-three text-two

  shown-again : shown file (left_in file n) ≡ text_of file
  shown-again =
      two (has_checkpoint file) (shown file (left_in file n) ≡ text_of file)
      (λ e. pick_true _ _ e ∙ ap (again_text file (left_in file n)) opened ∙ read_left ∙ sym text-accepted)
      (λ e. pick_false _ _ e)

pub unchanged : Unchanged
unchanged file n opened = text-accepted file n opened

pub read_twice : ReadTwice
read_twice file n opened = shown-again file n opened
