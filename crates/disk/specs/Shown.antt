-- What printing a file by its name answers, and what holds of it.
-- Assumes nothing.
use Rattle.std.specs.Prelude.{◌≡◌, List, [], ℕ, ◌+◌, ◌≤◌, length, take, Result, Ok, Err}
use Rattle.file.specs.declared.FileRefusal.{FileRefusal}
use Rattle.file.specs.File.{file_refusal_number}
use Rattle.text.specs.Lines.{refused_line}
use Rattle.std.specs.declared.ops.ControlFlow.{ControlFlow}
use Rattle.std.specs.declared.ops.ControlFlow.TheVariants.{Continue, Break}
use Rattle.trace.specs.Runs.{room_length}
use Rattle.trace.specs.Reading.{Follows, Says, Told}
use Rattle.disk.specs.declared.Failure.{Failure}
use Rattle.disk.specs.declared.Failure.TheVariants.{Unreadable, Unwritable}

-- the whole text of what was read has so many bytes, all of them written
pub record Ended (size : ℕ) : Type 0 where
  pub head : List ℕ
  pub ends : Follows head size []

-- printed: so many bytes. What was written by then where a file cannot be read on, or standard output not written, no value tells.
abbrev pub Holds : Result ℕ Failure → Type 0
Holds (Ok size) = Ended size
Holds (Err (Unreadable e)) = Unit {0}
Holds (Err (Unwritable e)) = Unit {0}

-- the first n bytes are there, and can be lent as they are
abbrev pub IsPrefixLen : ℕ → List ℕ → Type 0
IsPrefixLen n xs = (n ≤ length xs) × (n ≡ length (take n xs))

-- the text of a run lies at the start of a buffer, and is what is printed next
abbrev pub text_size : ControlFlow ℕ ℕ → ℕ
text_size (Continue size) = size
text_size (Break size) = size

abbrev pub RunSays : ControlFlow ℕ ℕ → List ℕ → ℕ → List ℕ → Type 0
RunSays r head at out = Says head at (take (text_size r) out) × IsPrefixLen (text_size r) out × (text_size r ≤ room_length)

-- only standard output fails where a text is written
abbrev pub Writes : Result (Unit {0}) Failure → Type 0
Writes (Ok done) = Unit {0}
Writes (Err (Unwritable e)) = Unit {0}
Writes (Err (Unreadable e)) = ⊥

-- what writing it answers: the position behind it, or that it cannot be written
abbrev pub Wrote : ControlFlow ℕ ℕ → ℕ → Result (ControlFlow ℕ ℕ) Failure → Type 0
Wrote (Continue size) at (Ok (Continue next)) = next ≡ at + size
Wrote (Continue size) at (Ok (Break all)) = ⊥
Wrote (Break size) at (Ok (Continue next)) = ⊥
Wrote (Break size) at (Ok (Break all)) = all ≡ at + size
Wrote ran at (Err (Unwritable e)) = Unit {0}
Wrote ran at (Err (Unreadable e)) = ⊥

-- behind a run: the next step is number i of n, and no more than a run's text was written; or the text is over
abbrev pub Goes : ControlFlow ℕ ℕ → List ℕ → ℕ → ℕ → List ℕ → ℕ → Type 0
Goes (Continue at) head n i s before = Told head n i s at × (at ≤ before + room_length)
Goes (Break size) head n i s before = Ended size

abbrev pub Turned : Result (ControlFlow ℕ ℕ) Failure → List ℕ → ℕ → ℕ → List ℕ → ℕ → Type 0
Turned (Ok turn) head n i s before = Goes turn head n i s before
Turned (Err e) head n i s before = Holds (Err e)

-- the refusal is all that is printed
abbrev pub Alone : List ℕ → FileRefusal → Type 0
Alone head r =
    Says head 0 (refused_line (file_refusal_number r)) × Follows head (0 + length (refused_line (file_refusal_number r))) []
