-- How long lines are at most.
-- Assumes nothing.
use mathlib.Core.List.{List, [], ◌∷◌}
use Prim.Native.Nat.{ℕ, suc, ◌+◌, ◌*◌, ◌^◌, ◌≤◌, ◌<◌}
use native.Mathlib.Omega.{arith}
use lib.ListN.{length, length-append}
use Rattle.isa.specs.declared.Answer.{Answer}
use Rattle.isa.specs.declared.Answer.TheVariants.{Done}
use Rattle.isa.specs.Effect.{bytes_on}
use Rattle.isa.specs.Call.{Call, effect_of}
use Rattle.isa.specs.State.{count_of}
use Rattle.isa.specs.Answers.{rows_above, answer_by, host_number}
use Rattle.isa.specs.Step.{answer_due, step_due}
use Rattle.isa.proofs.Rows.{first-all, above_all}
use Rattle.isa.proofs.Count.{bytes_most}
use Rattle.text.specs.Lines.{step_line}
use Rattle.text.proofs.Lengths.{step_short}
use Rattle.steps.specs.Steps.{step_lines}

answer_number : (s : List ℕ) (c : Call) → host_number (answer_due s c) < 2 ^ 64
unfolding answer_by
answer_number s c =
    first-all (λ (a : Answer). host_number a < 2 ^ 64) (rows_above (length s) (count_of s) (count_of s) c) (Done (bytes_on (effect_of c)))
    (above_all (λ (a : Answer). host_number a < 2 ^ 64) (omega arith) (omega arith) (omega arith) (omega arith) (omega arith) (omega arith) (omega arith)
    (omega arith) (omega arith) (length s) (count_of s) (count_of s) c)
    (omega (arith, bytes_most (effect_of c)))

pub line_short : (i : ℕ) (s : List ℕ) (c : Call) → i < 2 ^ 64 → length (step_line i (answer_due s c)) ≤ 55
line_short i s c h = step_short i (answer_due s c) h (answer_number s c)

pub lines_short : (cs : List Call) (i : ℕ) (s : List ℕ) → i + length cs < 2 ^ 64 → length (step_lines cs i s) ≤ 55 * length cs
unfolding step_lines
lines_short [] i s h = omega arith
lines_short (c ∷ cs) i s h =
    let line : List ℕ = step_line i (answer_due s c) in
    let rest : List ℕ = step_lines cs (suc i) (step_due c s) in
    omega (arith, length-append line rest, line_short i s c (omega arith), lines_short cs (suc i) (step_due c s) (omega arith))
