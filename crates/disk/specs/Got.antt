-- What reading answers.
-- Assumes nothing.
use Rattle.std.specs.Prelude.{◌≡◌, Bool, false, List, ℕ, ◌*◌, ◌≤◌, ◌<◌, length, take, Option, Some, None, Result, Ok, Err}
use Rattle.file.specs.File.{has_checkpoint, paddings_clear}

-- the bytes lie in a buffer of this length
abbrev pub Within : {E : Type 0} → Result ℕ E → ℕ → Type 0
Within (Ok n) size = n ≤ size
Within (Err e) size = Unit {0}

-- a file's head is read: the table and the starting registers, 5,148 bytes, or 5,160 where there is a checkpoint, as far as they are there
abbrev pub HeadOf : List ℕ → Type 0
HeadOf head = (length head ≤ 5160) × (has_checkpoint head ≡ false → length head ≤ 5148)

abbrev pub HeadRead : {E : Type 0} → Result ℕ E → List ℕ → Type 0
HeadRead (Ok n) buffer = (n ≤ length buffer) × HeadOf (take n buffer)
HeadRead (Err e) buffer = Unit {0}

-- n steps are read and looked at: their bytes are there, with the padding of all clear or not; or they are cut short
pub record Looked (n : ℕ) (clear : Bool) : Type 0 where
  pub bytes : List ℕ
  pub whole : length bytes ≡ 16 * n
  pub told : clear ≡ paddings_clear bytes n

pub record CutShort (n : ℕ) : Type 0 where
  pub bytes : List ℕ
  pub less : length bytes < 16 * n

abbrev pub Seen : Option Bool → ℕ → Type 0
Seen (Some clear) n = Looked n clear
Seen None n = CutShort n

abbrev pub Checks : {E : Type 0} → Result (Option Bool) E → ℕ → Type 0
Checks (Ok seen) n = Seen seen n
Checks (Err e) n = Unit {0}
