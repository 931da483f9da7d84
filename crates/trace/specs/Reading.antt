-- What a program that reads a file piece by piece, and does not hold it, has printed by then.
-- Assumes nothing.
use Rattle.std.specs.Prelude.{◌≡◌, true, cond, List, ◌++◌, ℕ, suc, ◌+◌, ◌-◌, ◌*◌, ◌≤◌, ◌<◌, length, take}
use Rattle.file.specs.declared.FileRefusal.{FileRefusal}
use Rattle.std.specs.Prelude.{Result, Ok, Err}
use Rattle.file.specs.File.{file_refusal_number, bytes_from, has_checkpoint, checkpoint_length, steps_base, step_bytes, step_at, steps_end}
use Rattle.file.specs.File.{registers_in, consumed_in, resumed_from, sound_in, head_as, opened_as}
use Rattle.text.specs.Lines.{refused_line}
use Rattle.trace.specs.Trace.{text_read, text_of}

-- ---- "A three-section file is opened by name and read twice: all of it is checked first"

-- The steps that are run are the second reading's, from the first that is not consumed on, and they are looked at again as they are read. The table, the
-- registers and the checkpoint are the first's.
abbrev pub again_text : List ℕ → List ℕ → Result ℕ FileRefusal → List ℕ
again_text file again (Ok n) = text_read (registers_in file) (n - consumed_in file) (consumed_in file) (resumed_from file) again
again_text file again (Err r) = refused_line (file_refusal_number r)

-- what is printed of a file, and of the bytes of its steps that are read again
abbrev pub shown : List ℕ → List ℕ → List ℕ
shown file again = cond (has_checkpoint file) (again_text file again (opened_as file)) (text_of file)

-- the bytes of the steps that are not consumed
abbrev pub left_in : List ℕ → ℕ → List ℕ
left_in file n = bytes_from file (steps_base file + step_bytes * consumed_in file) (step_bytes * (n - consumed_in file))

-- a file that has not changed in between prints its text
abbrev pub ReadTwice : Type 0
ReadTwice = (file : List ℕ) (n : ℕ) → opened_as file ≡ Ok n → shown file (left_in file n) ≡ text_of file

-- ---- what is not read

-- A reading stops where the text is decided: at a head that is all there and refused; at a whole step that is not sound, so that of a bad padding and a
-- later wrong length the first met counts; at a byte behind the last step; and at one behind the checkpoint. What follows changes nothing.
pub record Decided : Type 0 where
  pub heads : (head rest : List ℕ) (r : FileRefusal) → head_as head ≡ Err r → steps_base head ≤ length head → text_of (head ++ rest) ≡ text_of head
  pub steps : (registers : List ℕ) (left i : ℕ) (s bytes rest : List ℕ) → sound_in bytes left < left → step_at (suc (sound_in bytes left)) ≤ length bytes
      → text_read registers left i s (bytes ++ rest) ≡ text_read registers left i s bytes
  pub ends : (registers : List ℕ) (left i : ℕ) (s bytes rest : List ℕ) → sound_in bytes left ≡ left → step_at left < length bytes
      → text_read registers left i s (bytes ++ rest) ≡ text_read registers left i s bytes
  pub checkpoints : (file rest : List ℕ) → has_checkpoint file ≡ true → steps_end file + checkpoint_length < length file → text_of (file ++ rest) ≡ text_of file

-- ---- while a file is read

-- there is a file that begins with this head, and of what is printed of it so many bytes come before this text, which is the rest
pub record Follows (head : List ℕ) (at : ℕ) (text : List ℕ) : Type 0 where
  pub file : List ℕ
  pub again : List ℕ
  pub before : List ℕ
  pub begins : take (length head) file ≡ head
  pub there : shown file again ≡ before ++ text
  pub place : length before ≡ at

-- the same of a text that more may follow
pub record Says (head : List ℕ) (at : ℕ) (text : List ℕ) : Type 0 where
  pub after : List ℕ
  pub follows : Follows head at (text ++ after)

-- so many bytes are printed, and the next step is number i of n, on this state: whatever bytes are read from here on, their text is what follows
abbrev pub Told : List ℕ → ℕ → ℕ → List ℕ → ℕ → Type 0
Told head n i s at = (rest : List ℕ) → Follows head at (text_read (registers_in head) (n - i) i s rest)
