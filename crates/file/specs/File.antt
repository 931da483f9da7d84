-- Trace files, over their bytes: which are accepted, and what an accepted one holds.
-- Assumes nothing.
use Rattle.std.specs.Prelude.{Bool, true, cond, not, ◌&&◌, List, ◌++◌, ℕ, zero, suc, ◌+◌, ◌*◌, ◌/◌, ◌^◌, eqb, leb, ltb, length}
use Rattle.std.specs.Prelude.{Option, Some, None, Result, Ok, Err}
use Rattle.std.proofs.lemmas.List.Edits.{sets}
use Rattle.number.specs.Bytes.{byte_at, number, table, bytes_of}
use Rattle.isa.specs.State.{register_bytes, state_length, state_of}
use Rattle.isa.specs.Call.{Call, call}
use Rattle.file.specs.declared.FileRefusal.{FileRefusal}
use Rattle.file.specs.declared.FileRefusal.TheVariants.{Short, Contents, Padding}
use Rattle.file.specs.declared.Cursor.{Cursor}

-- refused 5 to 7
abbrev pub file_refusal_number : FileRefusal → ℕ
file_refusal_number Short = 5
file_refusal_number Contents = 6
file_refusal_number Padding = 7

-- ---- where things lie

-- n bytes from position p on, 0 past the end
abbrev pub bytes_from : List ℕ → ℕ → ℕ → List ℕ
bytes_from s p n = table (λ k. byte_at s (p + k)) 0 n

-- "u32 section count"
abbrev pub section_count : List ℕ → ℕ
section_count file = number 4 (byte_at file) 0

-- "A trace may carry a third section, kind 3, after the steps: u32 steps consumed, then the 5,128-byte state with its count." We call it the
-- checkpoint.
abbrev pub has_checkpoint : List ℕ → Bool
has_checkpoint file = eqb (section_count file) 3

abbrev pub checkpoint_length : ℕ
checkpoint_length = 4 + state_length

-- "with a table of 40 bytes": the table of contents has 28 where there is no checkpoint
abbrev pub contents_length : List ℕ → ℕ
contents_length file = cond (has_checkpoint file) 40 28

-- the steps start behind the starting registers
abbrev pub steps_base : List ℕ → ℕ
steps_base file = contents_length file + register_bytes

abbrev pub step_bytes : ℕ
step_bytes = 16

-- "Raise 2,048 to 1,000,000."
abbrev pub most_steps : ℕ
most_steps = 1000000

-- "The program takes steps in runs of at most 2,048": the steps of the next run, where so many are left
abbrev pub run_steps : ℕ
run_steps = 2048

abbrev pub run_of : ℕ → ℕ
run_of left = cond (ltb left run_steps) left run_steps

-- n, from the length of the second section
abbrev pub step_count : List ℕ → ℕ
step_count file = number 4 (byte_at file) 24 / step_bytes

-- the position behind the steps: that of the checkpoint, where there is one
abbrev pub steps_end : List ℕ → ℕ
steps_end file = steps_base file + step_bytes * step_count file

-- ---- what a file holds

-- "trace sections keep 5,120 register bytes"
abbrev pub registers_in : List ℕ → List ℕ
registers_in file = bytes_from file (contents_length file) register_bytes

-- the starting state: "a run starts at 0"
abbrev pub start_of : List ℕ → List ℕ
start_of file = state_of (registers_in file) 0

-- the second section's bytes
abbrev pub steps_in : List ℕ → List ℕ
steps_in file = bytes_from file (steps_base file) (step_bytes * step_count file)

-- "u32 steps consumed"; none without a checkpoint
abbrev pub consumed_in : List ℕ → ℕ
consumed_in file = cond (has_checkpoint file) (number 4 (byte_at file) (steps_end file)) 0

-- "then the 5,128-byte state with its count"
abbrev pub saved_in : List ℕ → List ℕ
saved_in file = bytes_from file (steps_end file + 4) state_length

-- the state that a run of the file goes on from: the saved one, whatever it is, or the starting state
abbrev pub resumed_from : List ℕ → List ℕ
resumed_from file = cond (has_checkpoint file) (saved_in file) (start_of file)

-- ---- steps, from the bytes of the second section or of a part of it

-- whole steps, as many as a run has at most
abbrev pub records_in : List ℕ → ℕ
records_in steps = run_of (length steps / step_bytes)

-- the position of step i
abbrev pub step_at : ℕ → ℕ
step_at i = step_bytes * i

-- "u8 instruction, u8 generation, 6 zero bytes, u64 operand", of step i
abbrev pub call_at : List ℕ → ℕ → Call
call_at steps i = call (byte_at steps (step_at i)) (byte_at steps (step_at i + 1)) (number 8 (byte_at steps) (step_at i + 8))

-- the first n steps
abbrev pub calls : List ℕ → ℕ → List Call
calls steps n = table (call_at steps) 0 n

-- ---- the table of contents

-- "u16 kind, u16 zero, u32 offset, u32 length": whether the entry at p is this one
unfoldable pub entry_is : List ℕ → ℕ → ℕ → ℕ → ℕ → Bool
entry_is file p kind offset size =
    eqb (number 2 (byte_at file) p) kind
    && eqb (number 2 (byte_at file) (p + 2)) 0
    && eqb (number 4 (byte_at file) (p + 4)) offset
    && eqb (number 4 (byte_at file) (p + 8)) size

-- n from 0 to 1,000,000; the starting registers, and the steps
unfoldable pub sections_right : List ℕ → Bool
sections_right file =
    leb (step_count file) most_steps
    && entry_is file 4 1 (contents_length file) register_bytes
    && entry_is file 16 2 (steps_base file) (step_bytes * step_count file)

-- the checkpoint's entry; and that there is none
abbrev pub third_is : List ℕ → Bool
third_is file = entry_is file 28 3 (steps_end file) checkpoint_length

abbrev pub two_sections : List ℕ → Bool
two_sections file = eqb (section_count file) 2

-- the checkpoint, with no more steps consumed than there are
unfoldable pub checkpoint_right : List ℕ → Bool
checkpoint_right file = third_is file && leb (consumed_in file) (step_count file)

-- the whole table: two sections, or three
unfoldable pub table_right : List ℕ → Bool
table_right file =
    sections_right file && cond (has_checkpoint file) (third_is file) (two_sections file)

-- two sections, or three with the checkpoint, and no byte behind the last
unfoldable pub contents_right : List ℕ → Bool
contents_right file =
    sections_right file
    && cond (has_checkpoint file)
    (checkpoint_right file && eqb (length file) (steps_end file + checkpoint_length))
    (two_sections file && eqb (length file) (steps_end file))

-- ---- the padding

-- whether the first n pass a test
abbrev pub all : (ℕ → Bool) → ℕ → Bool
all f zero = true
all f (suc n) = all f n && f n

-- "6 zero bytes", from byte 2 of step i on
unfoldable pub padding_clear : List ℕ → ℕ → Bool
padding_clear steps i = all (λ k. eqb (byte_at steps (step_at i + 2 + k)) 0) 6

-- the same for n steps
unfoldable pub paddings_clear : List ℕ → ℕ → Bool
paddings_clear steps n = all (padding_clear steps) n

-- ---- opening

-- "Refused 5: shorter than 28 bytes", which "also covers a count of 3 in under 40 bytes". "Refused 6: count or an entry differs from the above", or
-- the starting state is cut short. So far a file is looked at before any line; what is read of it is its head.
unfoldable pub head_as : List ℕ → Result ℕ FileRefusal
head_as head =
    cond (ltb (length head) (contents_length head)) (Err Short)
    (cond (not (table_right head)) (Err Contents)
    (cond (ltb (length head) (steps_base head)) (Err Contents)
    (Ok (step_count head))))

-- A file that is sound as a whole: "Refused 6: .. or the file's length"; it "checks all three entries, the length, and consumed above n". "Refused 7: a
-- padding byte not 0", of a consumed step too. In that order. A file with a checkpoint is accepted so before any line.
unfoldable pub opened_as : List ℕ → Result ℕ FileRefusal
opened_as file =
    cond (ltb (length file) (contents_length file)) (Err Short)
    (cond (not (contents_right file)) (Err Contents)
    (cond (not (paddings_clear (steps_in file) (step_count file))) (Err Padding)
    (Ok (step_count file))))

-- The same of a file that is read piece by piece, behind a head that says n and n whole steps: by the bytes behind them, and whether the padding of all
-- steps is clear. These are the checkpoint, and no more.
unfoldable pub closed_as : List ℕ → ℕ → Bool → Result ℕ FileRefusal
closed_as last n clear =
    cond (not (eqb (length last) checkpoint_length && leb (number 4 (byte_at last) 0) n)) (Err Contents)
    (cond (not clear) (Err Padding)
    (Ok n))

-- ---- steps as they are read

-- whether step i is there as a whole, with its padding clear
abbrev pub sound : List ℕ → ℕ → Bool
sound steps i = leb (step_at (suc i)) (length steps) && padding_clear steps i

-- the number of steps before the first that is not sound, n at most
unfoldable pub sound_in : List ℕ → ℕ → ℕ
sound_in steps zero = zero
sound_in steps (suc n) = let k = sound_in steps n in cond (eqb k n && sound steps n) (suc n) k

-- why step i is not sound: "a record cut short is 6, whatever its padding"
abbrev pub fault_at : List ℕ → ℕ → FileRefusal
fault_at steps i = cond (ltb (length steps) (step_at (suc i))) Contents Padding

-- ---- reading step by step

abbrev pub cursor : ℕ → ℕ → Cursor
cursor next end = record { next = next; end = end }

-- whether a cursor is at a step: not at or behind the end, and not from step 2,048 on, which no run has
abbrev pub at_step : Cursor → Bool
at_step c = ltb c.next c.end && ltb c.next run_steps

-- the step that a cursor is at, with the cursor behind it
abbrev pub read_as : List ℕ → Cursor → Option (Call × Cursor)
read_as steps c =
    cond (at_step c)
    (Some (call_at steps c.next, cursor (c.next + 1) c.end))
    None

-- ---- loading the state that a run goes on from

-- a state of another length is left as it is
abbrev pub loaded_start : List ℕ → List ℕ → List ℕ
loaded_start head state = cond (eqb (length state) state_length) (start_of head) state

abbrev pub loaded_saved : List ℕ → List ℕ → List ℕ
loaded_saved last state = cond (eqb (length state) state_length) (bytes_from last 4 state_length) state

-- ---- storing a checkpoint

-- the third section of a run that was stopped after so many steps
abbrev pub checkpoint_of : ℕ → List ℕ → List ℕ
checkpoint_of consumed state = bytes_of 4 consumed ++ state

-- whether the number fits its u32, the state is whole and a buffer holds its checkpoint
abbrev pub storable : ℕ → List ℕ → List ℕ → Bool
storable consumed state out = ltb consumed (2 ^ 32) && eqb (length state) state_length && leb checkpoint_length (length out)

-- the buffer afterwards, and how many bytes were stored: none where one of these fails
abbrev pub checkpoint_in : List ℕ → ℕ → List ℕ → List ℕ
checkpoint_in out consumed state = cond (storable consumed state out) (sets out 0 (checkpoint_of consumed state)) out

abbrev pub stored_bytes : List ℕ → ℕ → List ℕ → ℕ
stored_bytes out consumed state = cond (storable consumed state out) checkpoint_length 0
