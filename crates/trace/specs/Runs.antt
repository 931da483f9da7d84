-- Steps in runs: "The program takes steps in runs of at most 2,048 and doesn't hold the file." "The end state must equal that of one run over all steps."
-- Assumes nothing.
use Rattle.std.specs.Prelude.{◌≡◌, cond, List, [], ◌∷◌, ◌++◌, ℕ, ◌+◌, ◌*◌, ◌^◌, ◌≤◌, ◌<◌, ltb, length, take, drop}
use Rattle.isa.specs.Step.{run}
use Rattle.file.specs.File.{file_refusal_number, step_bytes, run_of, sound_in, fault_at, calls}
use Rattle.text.specs.Lines.{refused_line}
use Rattle.steps.specs.Steps.{step_lines}
use Rattle.std.specs.declared.ops.ControlFlow.{ControlFlow}
use Rattle.std.specs.declared.ops.ControlFlow.TheVariants.{Continue, Break}
use Rattle.trace.specs.Trace.{end_text, text_read}

-- ---- one run

-- the text of a run of m steps, of which the first is number i, by the bytes that there are of them: the lines of the sound ones, and the refusal where
-- it stops short
abbrev pub run_text : ℕ → ℕ → List ℕ → List ℕ → List ℕ
run_text m i s part =
    let k = sound_in part m in step_lines (calls part k) i s ++ cond (ltb k m) (refused_line (file_refusal_number (fault_at part k))) []

-- the state that it leaves
abbrev pub ran_to : ℕ → List ℕ → List ℕ → List ℕ
ran_to m s part = run (calls part (sound_in part m)) s

-- what it answers: the length of its text, and whether the next run follows
abbrev pub ran_as : ℕ → ℕ → List ℕ → List ℕ → ControlFlow ℕ ℕ
ran_as m i s part = let size = length (run_text m i s part) in cond (ltb (sound_in part m) m) (Break size) (Continue size)

-- ---- runs one behind the other, by the number of steps in each

unfoldable pub total : List ℕ → ℕ
total [] = 0
total (m ∷ ms) = m + total ms

-- their text, joined; none behind a run that stopped short, and the end behind the last
unfoldable pub runs_text : List ℕ → List ℕ → ℕ → List ℕ → List ℕ → List ℕ
runs_text registers [] i s bytes = end_text registers i s bytes
runs_text registers (m ∷ ms) i s bytes =
    let part = take (step_bytes * m) bytes in
    run_text m i s part ++ cond (ltb (sound_in part m) m) [] (runs_text registers ms (i + m) (ran_to m s part) (drop (step_bytes * m) bytes))

-- the state that they leave
unfoldable pub runs_to : List ℕ → List ℕ → List ℕ → List ℕ
runs_to [] s bytes = s
runs_to (m ∷ ms) s bytes =
    let part = take (step_bytes * m) bytes in
    cond (ltb (sound_in part m) m) (ran_to m s part) (runs_to ms (ran_to m s part) (drop (step_bytes * m) bytes))

-- for every division into runs, of at most 2,048 or of more: the text is that of all steps as they are read, and the state that of one run over all steps
abbrev pub Divided : Type 0
Divided =
    (ms registers : List ℕ) (i : ℕ) (s bytes : List ℕ)
    → (runs_text registers ms i s bytes ≡ text_read registers (total ms) i s bytes)
    × (runs_to ms s bytes ≡ ran_to (total ms) s bytes)

-- ---- room

-- bytes in which the text of every run fits, and what ends a text
abbrev pub room_length : ℕ
room_length = 131072

-- no text is cut
abbrev pub Fits : Type 0
Fits =
    (left i : ℕ) (registers s bytes : List ℕ) → i < 2 ^ 32
    → (length (run_text (run_of left) i s bytes) ≤ room_length) × (length (end_text registers i s bytes) ≤ room_length)
