-- A run that goes on from the state at which another was stopped ends as the whole run does.
-- Assumes nothing.
use mathlib.Core.Path.{◌≡◌, sym, ap, ◌∙◌}
use mathlib.Core.List.{List, ◌++◌, append_assoc}
use Prim.Native.Nat.{ℕ, ◌+◌, ◌≤◌}
use native.Mathlib.Omega.{arith}
use lib.ListN.{length, take, drop, take-append-drop}
use lib.Seq.{length-take-le}
use Rattle.isa.specs.Call.{Call}
use Rattle.isa.specs.Step.{run}
use Rattle.std.specs.Prelude.{Ok}
use Rattle.file.specs.File.{step_count, registers_in, start_of, steps_in, consumed_in, resumed_from, opened_as}
use Rattle.file.proofs.Contents.{consumed-none}
use Rattle.file.proofs.States.{resumed-start}
use Rattle.file.proofs.Records.{length-calls}
use Rattle.file.proofs.Accepted.{accepted-count, accepted-consumed}
use Rattle.text.specs.Lines.{steps_line}
use Rattle.steps.specs.Steps.{step_lines}
use Rattle.steps.proofs.Joined.{joined}
use Rattle.trace.specs.Trace.{z_lines, calls_in, remaining, ended, text_of}
use Rattle.trace.specs.Resume.{lines_to, Resumes, WholeRun}
use Rattle.trace.proofs.Sounds.{unchanged}

-- ---- a list of calls in two parts

module _ (cs : List Call) (k : ℕ) (s : List ℕ) where
  parts-run : run (drop k cs) (run (take k cs) s) ≡ run cs s
  parts-run = sym (joined (take k cs) (drop k cs) 0 s).0 ∙ ap (λ (x : List Call). run x s) (take-append-drop k cs)

  parts-lines : k ≤ length cs → step_lines (take k cs) 0 s ++ step_lines (drop k cs) k (run (take k cs) s) ≡ step_lines cs 0 s
  parts-lines h =
      let front : List ℕ = step_lines (take k cs) 0 s in
      let place : k ≡ 0 + length (take k cs) = omega (arith, length-take-le k cs h) in
      ap (λ (i : ℕ). front ++ step_lines (drop k cs) i (run (take k cs) s)) place
      ∙ sym (joined (take k cs) (drop k cs) 0 s).1 ∙ ap (λ (x : List Call). step_lines x 0 s) (take-append-drop k cs)

-- ---- a file without a checkpoint, and one that goes on with it

module _ (file whole : List ℕ) (n : ℕ) (opened : opened_as file ≡ Ok n) (uncut : opened_as whole ≡ Ok n) (r : Resumes file whole) where
  abbrev cs : List Call
  cs = calls_in whole

  abbrev s : List ℕ
  s = start_of whole

  abbrev k : ℕ
  k = consumed_in file

  none : consumed_in whole ≡ 0
  none = consumed-none whole r.uncut

  -- the whole run starts at the start and has every step
  all : remaining whole ≡ cs
  all = ap (λ (m : ℕ). drop m cs) none

  start : resumed_from whole ≡ s
  start = resumed-start whole r.uncut

  rest : remaining file ≡ drop k cs
  rest = ap (drop k) r.steps

  fits : k ≤ length cs
  fits = omega (arith, length-calls (steps_in whole) (step_count whole), accepted-count whole n uncut, accepted-consumed file n opened)

  same_end : ended file ≡ ended whole
  same_end = (λ i. run (rest i) (r.saved i)) ∙ parts-run cs k s ∙ sym (λ i. run (all i) (start i))

  abbrev front : List ℕ
  front = lines_to whole k

  abbrev back : List ℕ
  back = step_lines (remaining file) k (resumed_from file)

  abbrev lines : List ℕ
  lines = step_lines (remaining whole) (consumed_in whole) (resumed_from whole)

  same_lines : front ++ back ≡ lines
  same_lines =
      (λ i. front ++ step_lines (rest i) k (r.saved i)) ∙ parts-lines cs k s fits ∙ sym (λ i. step_lines (all i) (none i) (start i))

  same_text : front ++ text_of file ≡ text_of whole
  same_text =
      let z : List ℕ = z_lines (registers_in file) (ended file) in
      ap (λ (x : List ℕ). front ++ x) (unchanged file n opened)
      ∙ sym (append_assoc front (back ++ z) (steps_line n)) ∙ sym (ap (λ (x : List ℕ). x ++ steps_line n) (append_assoc front back z))
      ∙ (λ i. same_lines i ++ z_lines (r.registers i) (same_end i) ++ steps_line n) ∙ sym (unchanged whole n uncut)

pub whole_run : WholeRun
whole_run file whole n opened uncut r = (
  same_end file whole n opened uncut r,
  same_lines file whole n opened uncut r,
  same_text file whole n opened uncut r,
)
