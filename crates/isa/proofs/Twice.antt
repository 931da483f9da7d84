-- No step twice: a serial that a step has used up changes nothing any more.
-- Assumes nothing.
use mathlib.Core.Path.{◌≡◌, refl, ap, ◌∙◌}
use mathlib.Core.Bool.{false, cond}
use mathlib.Core.List.{List, [], ◌∷◌}
use Prim.Native.Nat.{ℕ, ◌≤◌, ◌<◌}
use native.Mathlib.Omega.{arith}
use lib.Dec.{eqb}
use lib.ListN.{length}
use borrow.Author.Tests.{eq-eqb, ne_eqb}
use Rattle.isa.specs.declared.Answer.TheVariants.{Refused}
use Rattle.isa.specs.declared.Refusal.TheVariants.{Serial, LastCount}
use Rattle.isa.specs.State.{state_length, count_of, last_count}
use Rattle.isa.specs.Call.{Call}
use Rattle.isa.specs.Answers.{known_rows, first_of, answer_of, taken}
use Rattle.isa.specs.Step.{stepped, Sent, run_sent}
use Rattle.isa.specs.Demands.{UsedUp, NoStepTwice}
use Rattle.number.proofs.Tests.{two}
use Rattle.isa.proofs.Step.{told, not_known, met, stepped-not, stepped-length, taken-raised, count-from}

-- steps keep the length, and no count falls
sent_length : (xs : List Sent) (s : List ℕ) → length (run_sent xs s) ≡ length s
sent_length [] s = refl
sent_length (x ∷ xs) s = sent_length xs (stepped x.of x.serial s) ∙ stepped-length x.of x.serial s

sent_count : (xs : List Sent) (s : List ℕ) → count_of s ≤ count_of (run_sent xs s)
sent_count [] s = omega arith
sent_count (x ∷ xs) s = omega (arith, sent_count xs (stepped x.of x.serial s), count-from x.of x.serial s)

-- below the count, a serial is refused
module _ (c : Call) (serial : ℕ) (s : List ℕ) (size : length s ≡ 5128) (past : serial < count_of s) where
  used-up : UsedUp c serial s
  used-up = told (length s) (count_of s) serial c (eq-eqb (length s) state_length size) refl (ne_eqb serial (count_of s) (λ e. omega (arith, e)))

  used-leaves : stepped c serial s ≡ s
  used-leaves =
      stepped-not c serial s
      (two (eqb (count_of s) last_count) (taken (answer_of s c serial) ≡ false)
      (λ t. ap taken (used-up ∙ (λ i. first_of (known_rows c) (cond (t i) (Refused LastCount) (Refused Serial)))) ∙ not_known c LastCount)
      (λ t. ap taken (used-up ∙ (λ i. first_of (known_rows c) (cond (t i) (Refused LastCount) (Refused Serial)))) ∙ not_known c Serial))

pub no_step_twice : NoStepTwice
no_step_twice c serial s t since again =
    let first = met c serial s t in
    let next : List ℕ = stepped c serial s in
    let now : List ℕ = run_sent since next in
    let size : length now ≡ 5128 = sent_length since next ∙ stepped-length c serial s ∙ first.size in
    let past : serial < count_of now = omega (arith, first.due, taken-raised c serial s (answer_of s c serial) refl t, sent_count since next) in
    (used-leaves again serial now size past, used-up again serial now size past)
