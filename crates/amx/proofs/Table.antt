-- What a step answers and leaves, from what the table gives it and what is done.
-- Assumes nothing.
use mathlib.Core.Path.{◌≡◌, refl, sym, ap, ◌∙◌, subst}
use mathlib.Core.Bool.{Bool, true, false, cond}
use mathlib.Core.List.{List, [], ◌∷◌, ◌++◌}
use Prim.Native.Nat.{ℕ, ◌+◌, ◌<◌}
use native.Mathlib.Nat.{mod-eq_of_lt}
use lib.Dec.{eqb}
use lib.ListN.{length, drop}
use lib.Seq.{take_at}
use borrow.Author.Tests.{eq-eqb, ne_eqb}
use Rattle.number.specs.Bytes.{span, byte_at, number}
use Rattle.number.proofs.Tests.{either, pick_true, pick_false}
use Rattle.std.specs.Prelude.{Result, Ok, Err}
use Rattle.isa.specs.declared.NotDone.{NotDone}
use Rattle.isa.specs.declared.NotDone.TheVariants as not_done
use Rattle.isa.specs.declared.Answer.{Answer}
use Rattle.isa.specs.declared.Answer.TheVariants.{Done, NoOp, Refused}
use Rattle.isa.specs.State.{registers_of, count_of, last_count, state_of}
use Rattle.isa.specs.Effect.{Effect, nothing, applied, bytes_on}
use Rattle.isa.specs.Call.{Call, call, Instruction, other, instruction_by, effect_by, effect_of}
use Rattle.isa.specs.Answers.{Row, rows_above, first_of, passed, answer_by, answer_of, taken}
use Rattle.isa.specs.Step.{stepped}
use Rattle.isa.proofs.Rows.{AllRows, above_all}
use Rattle.isa.proofs.Registers.{length-registers}
use Rattle.isa.proofs.Applied.{length-applied, applied-nothing}
use Rattle.isa.proofs.Count.{nothing-bytes}
use Rattle.isa.proofs.Step.{met, stepped-as}

-- the count, as it is read
pub due-is : (s : List ℕ) (r : ℕ) → r ≡ number 8 (byte_at s) 5120 → r < span 8 → r ≡ count_of s
unfolding count_of
due-is s r e h = e ∙ sym (mod-eq_of_lt (subst (λ (x : ℕ). x < span 8) e h))

-- ---- what is done, by the instruction

-- an effect on the registers s, and the count of its bytes
module _ (s t : List ℕ) (r : ℕ) where
  abbrev By : Effect → Type 0
  By e = (t ≡ cond (eqb (length s) 5120) (applied e s) s) × (r ≡ cond (eqb (length s) 5120) (bytes_on e) 0)

-- another number does nothing
pub effect_other : (i gen op : ℕ) → (i ≡ 14 → ⊥) → (i ≡ 18 → ⊥) → (i ≡ 19 → ⊥) → (i ≡ 11 → ⊥) → effect_of (call i gen op) ≡ nothing
effect_other i gen op not14 not18 not19 not11 = ap (λ (k : Instruction). effect_by k gen op) is-other
  where
    is-other : instruction_by i ≡ other
    is-other = pick_false _ _ (ne_eqb i 14 not14) ∙ pick_false _ _ (ne_eqb i 18 not18) ∙ pick_false _ _ (ne_eqb i 19 not19) ∙ pick_false _ _ (ne_eqb i 11 not11)

pub left_by_nothing : (s : List ℕ) → cond (eqb (length s) 5120) (applied nothing s) s ≡ s
left_by_nothing s = either (λ (l : List ℕ). l ≡ s) (eqb (length s) 5120) (applied-nothing s) refl

pub counted_by_nothing : (s : List ℕ) → cond (eqb (length s) 5120) (bytes_on nothing) 0 ≡ 0
counted_by_nothing s = either (λ (n : ℕ). n ≡ 0) (eqb (length s) 5120) nothing-bytes refl

-- and then the count is raised to n
pub done-as : (e : Effect) (s t u : List ℕ) (r n : ℕ) → length s ≡ 5128 → By (registers_of s) t r e → u ≡ state_of (registers_of (t ++ drop 5120 s)) n
    → (u ≡ state_of (applied e (registers_of s)) n) × (r ≡ bytes_on e)
done-as e s t u r n size h raise =
    let whole : length (registers_of s) ≡ 5120 = length-registers s size in
    let is : eqb (length (registers_of s)) 5120 ≡ true = eq-eqb (length (registers_of s)) 5120 whole in
    let new : t ≡ applied e (registers_of s) = h.0 ∙ pick_true _ _ is in
    let same : length t ≡ 5120 = ap length new ∙ length-applied e (registers_of s) ∙ whole in (
      raise ∙ ap (λ (l : List ℕ). state_of l n) (take_at t (drop 5120 s) 5120 same ∙ new),
      h.1 ∙ pick_true _ _ is,
    )

-- ---- the answer

-- the answer to a call that is done, where the rows let it pass, with this count of bytes
abbrev whole : Result Unit NotDone → ℕ → Answer
whole (Ok t) n = Done n
whole (Err (not_done.NoOp r)) n = NoOp r
whole (Err (not_done.Refused r)) n = Refused r

-- no row of the table says done
abbrev Same : Answer → Type 0
Same a = (n : ℕ) → whole (passed a) n ≡ a

abbrev NoneDone : List Row → Type 0
NoneDone = AllRows Same

whole-passed : (rows : List Row) → NoneDone rows → (n : ℕ) → whole (passed (first_of rows (Done 0))) n ≡ first_of rows (Done n)
whole-passed [] h n = refl
whole-passed (r ∷ rows) h n = picked r.applies (whole-passed rows h.1 n)
  where
    picked : (t : Bool) → whole (passed (first_of rows (Done 0))) n ≡ first_of rows (Done n)
        → whole (passed (cond t r.answer (first_of rows (Done 0)))) n ≡ cond t r.answer (first_of rows (Done n))
    picked true rest = h.0 n
    picked false rest = rest

-- ---- the step: p is what the rows say before the call is done, for the count that was read

module _ (c : Call) (serial : ℕ) (s : List ℕ) {count : ℕ} (read : count ≡ count_of s) {p : Result Unit NotDone}
    (told : p ≡ passed (first_of (rows_above (length s) count serial c) (Done 0))) where
  abbrev bytes : ℕ
  bytes = bytes_on (effect_of c)

  answer-is : answer_of s c serial ≡ whole p bytes
  unfolding answer_by
  answer-is =
      let none : NoneDone (rows_above (length s) count serial c) =
      above_all Same (λ n. refl) (λ n. refl) (λ n. refl) (λ n. refl) (λ n. refl) (λ n. refl) (λ n. refl) (λ n. refl) (λ n. refl) (length s) count serial c
      in
      ap (λ (k : ℕ). first_of (rows_above (length s) k serial c) (Done bytes)) (sym read)
      ∙ sym (whole-passed (rows_above (length s) count serial c) none bytes)
      ∙ ap (λ (x : Result Unit NotDone). whole x bytes) (sym told)

  -- a step that is taken has a state of the right length, below its last count
  pub step-needs : (q : Result Unit NotDone) → p ≡ q → taken (whole q bytes) ≡ true → (length s ≡ 5128) × (count < last_count)
  step-needs q e t =
      let had = met c serial s (ap taken (answer-is ∙ ap (λ (x : Result Unit NotDone). whole x bytes) e) ∙ t) in
      (had.size, subst (λ (k : ℕ). k < last_count) (sym read) had.room)

  pub step-done : (r : ℕ) (t : List ℕ) → p ≡ Ok tt → t ≡ state_of (applied (effect_of c) (registers_of s)) (count + 1) → r ≡ bytes
      → (t ≡ stepped c serial s) × (Done r ≡ answer_of s c serial)
  step-done r t e et er =
      let is : answer_of s c serial ≡ Done bytes = answer-is ∙ ap (λ (x : Result Unit NotDone). whole x bytes) e in (
        et ∙ ap (λ (k : ℕ). state_of (applied (effect_of c) (registers_of s)) (k + 1)) read ∙ sym (stepped-as c serial s (Done bytes) is),
        ap Done er ∙ sym is,
      )

  pub step-no-op : (r : _) (t : List ℕ) → p ≡ Err (not_done.NoOp r) → t ≡ state_of (registers_of s) (count + 1)
      → (t ≡ stepped c serial s) × (NoOp r ≡ answer_of s c serial)
  step-no-op r t e et =
      let is : answer_of s c serial ≡ NoOp r = answer-is ∙ ap (λ (x : Result Unit NotDone). whole x bytes) e in
      (et ∙ ap (λ (k : ℕ). state_of (registers_of s) (k + 1)) read ∙ sym (stepped-as c serial s (NoOp r) is), sym is)

  pub step-refused : (r : _) → p ≡ Err (not_done.Refused r) → (s ≡ stepped c serial s) × (Refused r ≡ answer_of s c serial)
  step-refused r e =
      let is : answer_of s c serial ≡ Refused r = answer-is ∙ ap (λ (x : Result Unit NotDone). whole x bytes) e in
      (sym (stepped-as c serial s (Refused r) is), sym is)
