-- A retry, and the last counts, in numbers: that a step is taken once can be met, and the count in demand 3's condition is needed.
-- Assumes nothing.
use Rattle.std.specs.Prelude.{◌≡◌, List, [], ◌∷◌, ℕ, ◌^◌, length}
use Rattle.isa.specs.declared.Answer.TheVariants.{Done, Refused}
use Rattle.isa.specs.declared.Refusal.TheVariants as refusal
use Rattle.isa.specs.State.{register_bytes, count_of, last_count, state_of}
use Rattle.isa.specs.Call.{Call, call}
use Rattle.isa.specs.Answers.{answer_of}
use Rattle.isa.specs.Step.{stepped, answers, run}
use Rattle.isa.specs.Swap.{swap_at, BothAdd}

-- a sum of 16-bit products onto row 0, by either instruction
abbrev pub sum : Call
sum = call 14 1 (2 ^ 63)

abbrev pub other_sum : Call
other_sum = call 18 2 0

-- on any registers, the first step of all is done, and sent again it is refused 8 and adds nothing
pub record Retry (registers : List ℕ) : Type 0 where
  pub first : answer_of (state_of registers 0) sum 0 ≡ Done 64
  pub again : answer_of (stepped sum 0 (state_of registers 0)) sum 0 ≡ Refused refusal.Serial
  pub once : stepped sum 0 (stepped sum 0 (state_of registers 0)) ≡ stepped sum 0 (state_of registers 0)

abbrev pub RetryRefused : Type 0
RetryRefused = (registers : List ℕ) → length registers ≡ register_bytes → Retry registers

-- with a count of 2^64 - 2 one more step is done; the count is then at its last, and every further one is refused 9
abbrev pub last_but_one : ℕ
last_but_one = 0xffff_ffff_ffff_fffe

abbrev pub nearly_last : List ℕ → List ℕ
nearly_last registers = state_of registers last_but_one

-- two steps that both only add do not swap there: their answers differ
pub record TwoSums (registers : List ℕ) : Type 0 where
  pub both-add : BothAdd (nearly_last registers) sum other_sum
  pub answered : answers (sum ∷ other_sum ∷ []) (nearly_last registers) ≡ Done 64 ∷ Refused refusal.LastCount ∷ []
  pub last : count_of (run (sum ∷ other_sum ∷ []) (nearly_last registers)) ≡ last_count
  pub differ :
      answers (swap_at 0 (sum ∷ other_sum ∷ [])) (nearly_last registers) ≡ swap_at 0 (answers (sum ∷ other_sum ∷ []) (nearly_last registers)) → ⊥

abbrev pub CountNeeded : Type 0
CountNeeded = (registers : List ℕ) → length registers ≡ register_bytes → TwoSums registers
