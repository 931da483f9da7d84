-- Runs join up; and one more call at the end of a run.
-- Assumes nothing.
use mathlib.Core.Path.{◌≡◌, refl, sym, ap, ◌∙◌}
use mathlib.Core.List.{List, [], ◌∷◌, ◌++◌, append-nil, append_assoc}
use Prim.Native.Nat.{ℕ, suc, ◌+◌}
use native.Mathlib.Nat.{add-zero}
use native.Mathlib.Omega.{arith}
use lib.ListN.{length}
use Rattle.number.proofs.Bytes.{table_more}
use Rattle.isa.specs.Call.{Call}
use Rattle.isa.specs.declared.Answer.{Answer}
use Rattle.isa.specs.Step.{answer_due, step_due, run}
use Rattle.file.specs.File.{call_at, calls}
use Rattle.file.proofs.Records.{length-calls}
use Rattle.text.specs.Lines.{step_line}
use Rattle.steps.specs.Steps.{step_lines, Joined}

pub joined : Joined
unfolding step_lines
joined [] ds i s = (refl, ap (λ (k : ℕ). step_lines ds k s) (sym (add-zero i)), refl)
joined (c ∷ cs) ds i s =
    let rest = joined cs ds (suc i) (step_due c s) in
    let next : suc i + length cs ≡ i + suc (length cs) = omega arith in
    let line : List ℕ = step_line i (answer_due s c) in
    let front : List ℕ = step_lines cs (suc i) (step_due c s) in
    let back : ℕ → List ℕ = λ k. step_lines ds k (run cs (step_due c s)) in (
      rest.0,
      ap (λ (xs : List ℕ). line ++ xs) (rest.1 ∙ ap (λ (k : ℕ). front ++ back k) next) ∙ sym (append_assoc line front (back (i + suc (length cs)))),
      ap (λ (xs : List Answer). answer_due s c ∷ xs) rest.2,
    )

-- ---- one more record

module _ (steps : List ℕ) (i : ℕ) where
  abbrev front : List Call
  front = calls steps i

  abbrev last : List Call
  last = call_at steps i ∷ []

  calls-more : calls steps (i + 1) ≡ front ++ last
  calls-more = table_more (call_at steps) i

  pub run_more : (s : List ℕ) → run (calls steps (i + 1)) s ≡ step_due (call_at steps i) (run front s)
  run_more s = ap (λ (cs : List Call). run cs s) calls-more ∙ (joined front last 0 s).0

  pub lines_more : (first : ℕ) (s : List ℕ)
      → step_lines (calls steps (i + 1)) first s ≡ step_lines front first s ++ step_line (first + i) (answer_due (run front s) (call_at steps i))
  unfolding step_lines
  lines_more first s =
      let line : ℕ → List ℕ = λ k. step_line k (answer_due (run front s) (call_at steps i)) in
      ap (λ (cs : List Call). step_lines cs first s) calls-more ∙ (joined front last first s).1
      ∙ ap (λ (xs : List ℕ). step_lines front first s ++ xs) (append-nil (line (first + length front)))
      ∙ ap (λ (k : ℕ). step_lines front first s ++ line (first + k)) (length-calls steps i)
