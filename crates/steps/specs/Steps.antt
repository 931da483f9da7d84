-- Calls run one after another on a state, and the lines that are printed of them.
-- Assumes nothing.
use Rattle.std.specs.Prelude.{◌≡◌, List, [], ◌∷◌, ◌++◌, ℕ, suc, ◌+◌, Option, Some, None, length}
use Rattle.isa.specs.Call.{Call}
use Rattle.isa.specs.Step.{answer_due, step_due, run, answers}
use Rattle.text.specs.Lines.{step_line}

-- ---- lines

-- the lines of calls, one for each, from place i on: "each call gets it as the last one left it", and the "driver takes the serial from the count"
unfoldable pub step_lines : List Call → ℕ → List ℕ → List ℕ
step_lines [] i s = []
step_lines (c ∷ cs) i s = step_line i (answer_due s c) ++ step_lines cs (suc i) (step_due c s)

-- runs join up: a list of calls and then another leave the state that the second leaves where the first left off, and the lines and answers of both,
-- the second's numbered on behind the first's
abbrev pub Joined : Type 0
Joined =
    (cs ds : List Call) (i : ℕ) (s : List ℕ)
    → (run (cs ++ ds) s ≡ run ds (run cs s))
    × (step_lines (cs ++ ds) i s ≡ step_lines cs i s ++ step_lines ds (i + length cs) (run cs s))
    × (answers (cs ++ ds) s ≡ answers cs s ++ answers ds (run cs s))

-- ---- one record, where one was found

-- the state that it leaves, and the line that it has at a place: "driver takes the serial from the count"
abbrev pub state_by : List ℕ → Option Call → List ℕ
state_by s (Some c) = step_due c s
state_by s None = s

abbrev pub line_by : ℕ → List ℕ → Option Call → List ℕ
line_by place s (Some c) = step_line place (answer_due s c)
line_by place s None = []
