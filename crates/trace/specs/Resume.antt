-- Resuming after a timeout: a run that was stopped, and goes on from its checkpoint, is the whole run.
-- Assumes nothing.
use Rattle.std.specs.Prelude.{◌≡◌, false, List, [], ◌∷◌, ◌++◌, ℕ, ◌+◌, ◌*◌, ◌^◌, ◌≤◌, length, take, drop}
use Rattle.number.specs.Bytes.{bytes_of}
use Rattle.isa.specs.declared.Answer.TheVariants.{Done, NoOp}
use Rattle.isa.specs.declared.Reason.TheVariants.{ReservedBits}
use Rattle.isa.specs.State.{register_bytes, state_of}
use Rattle.isa.specs.Call.{Call, call}
use Rattle.isa.specs.Step.{run, answers}
use Rattle.isa.specs.Swap.{swap_at, MaySwap, MaySwapAt}
use Rattle.isa.specs.Serials.{sum}
use Rattle.std.specs.Prelude.{Ok}
use Rattle.file.specs.File.{has_checkpoint, checkpoint_length, step_bytes, step_count, registers_in, start_of, steps_in, consumed_in, resumed_from}
use Rattle.file.specs.File.{opened_as, checkpoint_of}
use Rattle.steps.specs.Steps.{step_lines}
use Rattle.trace.specs.Trace.{calls_in, remaining, ended, text_of}

-- ---- a run that was stopped

-- the state after the first k steps of a file, run from its start
abbrev pub stopped_at : List ℕ → ℕ → List ℕ
stopped_at file k = run (take k (calls_in file)) (start_of file)

-- the lines that were printed by then
abbrev pub lines_to : List ℕ → ℕ → List ℕ
lines_to file k = step_lines (take k (calls_in file)) 0 (start_of file)

-- a file with a checkpoint goes on with one that has none: the same registers and steps, "provided the saved state is that of the run at that point"
pub record Resumes (file whole : List ℕ) : Type 0 where
  pub uncut : has_checkpoint whole ≡ false
  pub registers : registers_in file ≡ registers_in whole
  pub steps : calls_in file ≡ calls_in whole
  pub saved : resumed_from file ≡ stopped_at whole (consumed_in file)

-- "ends as the whole run does, count, z lines and last line too". "The first part's lines and the resumed part's, joined, are the whole run's step
-- lines", and what follows them is the same too.
abbrev pub WholeRun : Type 0
WholeRun =
    (file whole : List ℕ) (n : ℕ) → opened_as file ≡ Ok n → opened_as whole ≡ Ok n → Resumes file whole
    → (ended file ≡ ended whole)
    × (lines_to whole (consumed_in file) ++ step_lines (remaining file) (consumed_in file) (resumed_from file)
    ≡ step_lines (remaining whole) (consumed_in whole) (resumed_from whole))
    × (lines_to whole (consumed_in file) ++ text_of file ≡ text_of whole)

-- ---- "for every place of the cut, first and last included"

-- an entry of the table of contents
abbrev pub entry_of : ℕ → ℕ → ℕ → List ℕ
entry_of kind offset size = bytes_of 2 kind ++ bytes_of 2 0 ++ bytes_of 4 offset ++ bytes_of 4 size

-- "offsets 40, 5,160 and 5,160 + 16n, the third length being 5,132"
abbrev pub contents_of : ℕ → List ℕ
contents_of n =
    bytes_of 4 3 ++ entry_of 1 40 register_bytes ++ entry_of 2 5160 (step_bytes * n) ++ entry_of 3 (5160 + step_bytes * n) checkpoint_length

-- the file that a run of another, stopped after k steps, leaves behind
abbrev pub cut_at : List ℕ → ℕ → List ℕ
cut_at whole k = contents_of (step_count whole) ++ registers_in whole ++ steps_in whole ++ checkpoint_of k (stopped_at whole k)

abbrev pub EveryCut : Type 0
EveryCut =
    (whole : List ℕ) (n : ℕ) → opened_as whole ≡ Ok n → has_checkpoint whole ≡ false → (k : ℕ) → k ≤ n
    → (opened_as (cut_at whole k) ≡ Ok n) × (consumed_in (cut_at whole k) ≡ k) × Resumes (cut_at whole k) whole

-- ---- "a swap across the cut would run one step twice and another never"

-- a step that does nothing but raise the count
abbrev pub no_op : Call
no_op = call 18 1 (2 ^ 54)

-- two steps that may be swapped, on any registers, in a run that is stopped between them
abbrev pub pair : List Call
pair = sum ∷ no_op ∷ []

abbrev pub between : List ℕ → List ℕ
between registers = run (take 1 pair) (state_of registers 0)

-- one step remains, so that demand 3's list has no such swap; made all the same, the sum is run again and the other step never
pub record Across (registers : List ℕ) : Type 0 where
  pub allowed : MaySwap (state_of registers 0) sum no_op
  pub outside : MaySwapAt (between registers) 0 (drop 1 pair) → ⊥
  pub resumed : answers (drop 1 pair) (between registers) ≡ NoOp ReservedBits ∷ []
  pub swapped : answers (drop 1 (swap_at 0 pair)) (between registers) ≡ Done 64 ∷ []

abbrev pub NoSwapAcross : Type 0
NoSwapAcross = (registers : List ℕ) → length registers ≡ register_bytes → Across registers
