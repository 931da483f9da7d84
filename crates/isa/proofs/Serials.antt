-- A retry, and the last counts.
-- Assumes nothing.
use mathlib.Core.Path.{◌≡◌, refl, sym, ap, ◌∙◌}
use mathlib.Core.Bool.{Bool, true, false}
use mathlib.Core.List.{List, [], ◌∷◌}
use Prim.Native.Nat.{ℕ, ◌+◌, ◌<◌}
use native.Mathlib.Nat.{mod-eq_of_lt}
use native.Mathlib.Omega.{arith}
use lib.Dec.{lit<}
use lib.ListN.{length}
use borrow.Author.Tests.{eq-eqb, ne_eqb}
use Rattle.isa.specs.declared.Answer.{Answer}
use Rattle.isa.specs.declared.Answer.TheVariants.{Done, Refused}
use Rattle.isa.specs.declared.Refusal.TheVariants as refusal
use Rattle.isa.specs.Operand.{bits}
use Rattle.isa.specs.State.{count_of, last_count, state_of}
use Rattle.isa.specs.Effect.{sum, bytes_on, lanes_on}
use Rattle.isa.specs.Enable.{mac16_enables}
use Rattle.isa.specs.Mac16 as Mac16
use Rattle.isa.specs.Vecint as Vecint
use Rattle.isa.specs.Call.{Call, effect_of}
use Rattle.isa.specs.Answers.{known_rows, first_of, answer_of, own_answer, is_done}
use Rattle.isa.specs.Step.{stepped, answer_due, step_due, answers}
use Rattle.isa.specs.Swap.{swap_at}
use Rattle.isa.specs.Serials as Serials
use Rattle.number.proofs.Tests.{true_false}
use Rattle.isa.proofs.Registers.{length-state, count-state}
use Rattle.isa.proofs.Lawful.{fills}
use Rattle.isa.proofs.Count.{bytes-lanes}
use Rattle.isa.proofs.Step.{told, own-due, refused-leaves, stepped-length, taken-raised}
use Rattle.isa.proofs.Guards.{adding}

-- 32 lanes of 2 bytes
sum-bytes : bytes_on (effect_of Serials.sum) ≡ 64
unfolding bits sum lanes_on mac16_enables Mac16.on
sum-bytes = bytes-lanes (effect_of Serials.sum) (fills Serials.sum).0 (fills Serials.sum).1

own-sum : own_answer Serials.sum ≡ Done 64
unfolding own_answer
own-sum = ap Done sum-bytes

module _ (r : List ℕ) (size : length r ≡ 5120) (n : ℕ) (room : n < last_count) where
  abbrev s : List ℕ
  s = state_of r n

  counted : count_of s ≡ n
  counted = count-state r n size ∙ mod-eq_of_lt (omega arith)

  own : (c : Call) → answer_due s c ≡ own_answer c
  own c = own-due c s (length-state r n size) (omega (arith, counted))

  sum_done : answer_due s Serials.sum ≡ Done 64
  sum_done = own Serials.sum ∙ own-sum

  after-length : length (step_due Serials.sum s) ≡ 5128
  after-length = stepped-length Serials.sum (count_of s) s ∙ length-state r n size

  after-count : count_of (step_due Serials.sum s) ≡ n + 1
  after-count = taken-raised Serials.sum (count_of s) s (Done 64) sum_done refl ∙ ap (λ (k : ℕ). k + 1) counted

pub retry_refused : Serials.RetryRefused
retry_refused r size =
    let room : 0 < last_count = lit< tt in
    let due : count_of (state_of r 0) ≡ 0 = counted r size 0 room in
    let next : List ℕ = stepped Serials.sum 0 (state_of r 0) in
    let same : step_due Serials.sum (state_of r 0) ≡ next = ap (λ (k : ℕ). stepped Serials.sum k (state_of r 0)) due in
    let length-next : length next ≡ 5128 = sym (ap length same) ∙ after-length r size 0 room in
    let count_next : count_of next ≡ 1 = sym (ap count_of same) ∙ after-count r size 0 room in
    let again : answer_of next Serials.sum 0 ≡ Refused refusal.Serial =
    told (length next) (count_of next) 0 Serials.sum (eq-eqb (length next) 5128 length-next)
    (ne_eqb (count_of next) last_count (λ e. omega (arith, e, count_next))) (ne_eqb 0 (count_of next) (λ e. omega (arith, e, count_next)))
    in record {
      first = ap (answer_of (state_of r 0) Serials.sum) (sym due) ∙ sum_done r size 0 room;
      again = again;
      once = refused-leaves Serials.sum 0 next refusal.Serial again;
    }

-- at the last count a call of known numbers is refused 9
at_last : (c : Call) (s : List ℕ) → length s ≡ 5128 → count_of s ≡ last_count → answer_due s c ≡ first_of (known_rows c) (Refused refusal.LastCount)
at_last c s size last = told (length s) (count_of s) (count_of s) c (eq-eqb (length s) 5128 size) (eq-eqb (count_of s) last_count last) refl

first-differs : (a b : Answer) (more others : List Answer) → is_done a ≡ true → is_done b ≡ false → a ∷ more ≡ b ∷ others → ⊥
first-differs a b more others x y e = true_false (sym x ∙ ap first e ∙ y)
  where
    first : List Answer → Bool
    first [] = false
    first (c ∷ cs) = is_done c

pub count-needed : Serials.CountNeeded
unfolding bits own_answer Vecint.mode Vecint.widths_by Vecint.widths Vecint.z_width Vecint.overrides
count-needed r size =
    let s : List ℕ = Serials.nearly_last r in
    let room : Serials.last_but_one < last_count = lit< tt in
    let due : count_of s ≡ Serials.last_but_one = counted r size Serials.last_but_one room in
    let next : List ℕ = step_due Serials.sum s in
    let length-next : length next ≡ 5128 = after-length r size Serials.last_but_one room in
    let count_next : count_of next ≡ last_count = after-count r size Serials.last_but_one room in
    let second : answer_due next Serials.other_sum ≡ Refused refusal.LastCount = at_last Serials.other_sum next length-next count_next in
    let both : answers (Serials.sum ∷ Serials.other_sum ∷ []) s ≡ Done 64 ∷ Refused refusal.LastCount ∷ [] =
    λ i. sum_done r size Serials.last_but_one room i ∷ second i ∷ []
    in record {
      both-add = adding s Serials.sum Serials.other_sum (length-state r Serials.last_but_one size) (omega (arith, due)) refl refl refl;
      answered = both;
      last = ap count_of (refused-leaves Serials.other_sum (count_of next) next refusal.LastCount second) ∙ count_next;
      differ = λ e.
          first-differs (answer_due s Serials.other_sum) (Refused refusal.LastCount) _ (Done 64 ∷ [])
          (ap is_done (own r size Serials.last_but_one room Serials.other_sum)) refl
          (e ∙ ap (swap_at 0) both);
    }
