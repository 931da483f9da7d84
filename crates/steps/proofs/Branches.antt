-- One found record run, by the branches of the code.
-- Assumes nothing.
use mathlib.Core.Path.{◌≡◌, refl, sym, ap, subst, ◌∙◌}
use mathlib.Core.List.{List}
use Prim.Native.Nat.{ℕ, ◌+◌, ◌^◌, ◌≤◌, ◌<◌}
use native.Mathlib.Nat.{add-zero}
use native.Mathlib.Omega.{arith}
use lib.ListN.{length}
use lib.Seq.{sets}
use Rattle.isa.specs.Call.{Call}
use Rattle.isa.specs.declared.Answer.{Answer}
use Rattle.isa.specs.State.{count_of}
use Rattle.isa.specs.Answers.{answer_of}
use Rattle.isa.specs.Step.{stepped}
use Rattle.text.specs.Lines.{step_line}
use Rattle.text.proofs.Pieces.{Stored}
use Rattle.std.specs.Prelude.{Some}
use Rattle.steps.specs.Steps.{state_by, line_by}
use Rattle.steps.proofs.Short.{line_short}

-- what running a record at a place ensures of the state, the buffer and the position
abbrev pub RanOne : List ℕ → List ℕ → ℕ → ℕ → Call → List ℕ → List ℕ → ℕ → Type 0
RanOne s o at place r s' o' at' =
    (s' ≡ state_by s (Some r)) × (o' ≡ sets o at (line_by place s (Some r))) × (at' ≡ at + length (line_by place s (Some r)))

-- the serial that was read is the one due
pub step_run : (s o : List ℕ) (at place : ℕ) (r : Call) → place < 2 ^ 64 → (serial : ℕ) → serial ≡ count_of s
    → (s' : List ℕ) → s' ≡ stepped r serial s → (answer : Answer) → answer ≡ answer_of s r serial
    → (o' : List ℕ) (at' : ℕ) → Stored o at (step_line place answer) o' at'
    → RanOne s o at place r s' o' at' × (at' ≤ at + 55)
step_run s o at place r h serial due s' t answer a o' at' stored =
    let told : answer ≡ answer_of s r (count_of s) = a ∙ ap (answer_of s r) due in
    let there : Stored o at (line_by place s (Some r)) o' at' =
    subst (λ (xs : List ℕ). Stored o at xs o' at') (ap (step_line place) told) stored in (
      (t ∙ ap (λ (k : ℕ). stepped r k s) due, there.0, there.1),
      omega (arith, there.1, line_short place s r h),
    )
