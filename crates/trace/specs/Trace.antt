-- The text that is printed of a trace file.
-- Assumes nothing.
use Rattle.std.specs.Prelude.{◌≡◌, Bool, cond, not, List, [], ◌++◌, ℕ, zero, suc, ◌+◌, ◌*◌, eqb, ltb, length, drop}
use Rattle.number.specs.Bytes.{byte_at, table}
use Rattle.isa.specs.State.{z_base, rows, row_bytes}
use Rattle.isa.specs.Call.{Call}
use Rattle.isa.specs.Step.{run, answers}
use Rattle.isa.specs.Swap.{swaps, Allowed}
use Rattle.std.specs.Prelude.{Result, Ok, Err}
use Rattle.file.specs.declared.FileRefusal.{FileRefusal}
use Rattle.file.specs.declared.FileRefusal.TheVariants.{Contents}
use Rattle.file.specs.File.{file_refusal_number, all, has_checkpoint, steps_base, step_count, step_at, registers_in, start_of, steps_in, consumed_in}
use Rattle.file.specs.File.{resumed_from}
use Rattle.file.specs.File.{head_as, opened_as, sound_in, fault_at, calls}
use Rattle.text.specs.Lines.{z_line, steps_line, refused_line}
use Rattle.steps.specs.Steps.{step_lines}

-- ---- rows

-- the 64 bytes of Z row r
abbrev pub row_of : List ℕ → ℕ → List ℕ
row_of s r = table (λ k. byte_at s (z_base + r * row_bytes + k)) 0 row_bytes

-- whether two rows differ in a byte
unfoldable pub differ : List ℕ → List ℕ → Bool
differ a b = not (all (λ k. eqb (byte_at a k) (byte_at b k)) row_bytes)

abbrev pub row_changed : List ℕ → List ℕ → ℕ → Bool
row_changed start end r = differ (row_of start r) (row_of end r)

-- the line of row r, where it has one
abbrev pub row_line : List ℕ → List ℕ → ℕ → List ℕ
row_line start end r = cond (row_changed start end r) (z_line r (row_of end r)) []

-- the lines of the first n rows, ascending
abbrev pub row_lines : List ℕ → List ℕ → ℕ → List ℕ
row_lines start end zero = []
row_lines start end (suc n) = row_lines start end n ++ row_line start end n

-- "One z line for each row that differs from the start, ascending"
abbrev pub z_lines : List ℕ → List ℕ → List ℕ
z_lines start end = row_lines start end rows

-- ---- steps as they are read

-- all n steps are run: "One z line for each row that differs from the start", "then `steps` and n"; or the refusal, where bytes are behind the last step
abbrev pub end_text : List ℕ → ℕ → List ℕ → List ℕ → List ℕ
end_text registers n s behind =
    cond (eqb (length behind) 0) (z_lines registers s ++ steps_line n) (refused_line (file_refusal_number Contents))

-- "So refusal 7 now comes at its record: earlier step lines have been printed, then `file refused 7` ends the output with no z lines. Refusal 6 for a
-- wrong total length comes the same way, where the missing or extra bytes are met": the text of bytes that are read as steps, from step i on, where so
-- many are left
abbrev pub text_read : List ℕ → ℕ → ℕ → List ℕ → List ℕ → List ℕ
text_read registers left i s bytes =
    let k = sound_in bytes left in
    step_lines (calls bytes k) i s
    ++ cond (ltb k left)
    (refused_line (file_refusal_number (fault_at bytes k)))
    (end_text registers (i + k) (run (calls bytes k) s) (drop (step_at k) bytes))

-- ---- a file

-- all steps of a file
abbrev pub calls_in : List ℕ → List Call
calls_in file = calls (steps_in file) (step_count file)

-- "the steps not yet consumed": "Resuming reads on from there"; without a checkpoint all of them
abbrev pub remaining : List ℕ → List Call
remaining file = drop (consumed_in file) (calls_in file)

-- the state that a run of the file ends in
abbrev pub ended : List ℕ → List ℕ
ended file = run (remaining file) (resumed_from file)

-- the text of a file that is sound as a whole: "Step numbers go on from the consumed count"; rows are held against the starting registers, wherever the
-- run began; "then `steps` and n"
abbrev pub accepted_text : List ℕ → ℕ → List ℕ
accepted_text file n = step_lines (remaining file) (consumed_in file) (resumed_from file) ++ z_lines (registers_in file) (ended file) ++ steps_line n

-- "all of it is checked first, so its refusals still come before any line": with a checkpoint
abbrev pub checked_text : List ℕ → Result ℕ FileRefusal → List ℕ
checked_text file (Ok n) = accepted_text file n
checked_text file (Err r) = refused_line (file_refusal_number r)

-- without one, by its head: the refusal alone, or the steps as they are read
abbrev pub streamed_text : List ℕ → Result ℕ FileRefusal → List ℕ
streamed_text file (Ok n) = text_read (registers_in file) n 0 (start_of file) (drop (steps_base file) file)
streamed_text file (Err r) = refused_line (file_refusal_number r)

-- the text of a file, whatever its bytes are
unfoldable pub text_of : List ℕ → List ℕ
text_of file = cond (has_checkpoint file) (checked_text file (opened_as file)) (streamed_text file (head_as file))

-- ---- what is proved of it

-- "Old accepted files mean what they meant and are written the same": what is sound as a whole, by rules of which only the limit was moved, has the text
-- that it had
abbrev pub Unchanged : Type 0
Unchanged = (file : List ℕ) (n : ℕ) → opened_as file ≡ Ok n → text_of file ≡ accepted_text file n

-- "The steps of an accepted trace file are such a list": every chain of allowed swaps of them leaves the same state and the same answers. "When such a
-- file is resumed, demand 3's list is the steps not yet consumed, run from the saved state."
abbrev pub FileRearranged : Type 0
FileRearranged =
    (file : List ℕ) (n : ℕ) → opened_as file ≡ Ok n → (chain : List ℕ) → Allowed (resumed_from file) chain (remaining file)
    → (run (swaps chain (remaining file)) (resumed_from file) ≡ ended file)
    × (answers (swaps chain (remaining file)) (resumed_from file) ≡ swaps chain (answers (remaining file) (resumed_from file)))
