-- The normal operand gives the operand's answers and states, and is its own normal operand.
-- Assumes nothing.
use mathlib.Core.Path.{◌≡◌, refl, sym, ap, ap₂, ◌∙◌, subst}
use mathlib.Core.Bool.{Bool, true, false, cond, not}
use mathlib.Core.List.{List, [], ◌∷◌}
use mathlib.Core.Logic.{◌⊎◌, inl, inr, ⊎_elim}
use Prim.Native.Nat.{ℕ}
use Rattle.std.specs.Prelude.{Ok, Err}
use lib.Dec.{eqb}
use lib.ListN.{length}
use Rattle.isa.specs.declared.Answer.{Answer}
use Rattle.isa.specs.declared.Answer.TheVariants.{Done, NoOp, Refused}
use Rattle.isa.specs.declared.Refusal.{Refusal}
use Rattle.isa.specs.declared.Refusal.TheVariants.{StateLength, Serial, LastCount}
use Rattle.isa.specs.declared.NotDone.TheVariants as not_done
use Rattle.isa.specs.Operand.{bits}
use Rattle.isa.specs.State.{state_length, count_of, last_count}
use Rattle.isa.specs.Effect.{Effect, bytes_on}
use Rattle.isa.specs.Vecint as Vecint
use Rattle.isa.specs.Vecfp as Vecfp
use Rattle.isa.specs.Call.{Call, call, Instruction, mac16, vecint, vecfp, fms64, other, instruction_of, effect_by, effect_of}
use Rattle.isa.specs.Answers.{Row, later_mode, alu_rows, known_rows, asked_by, asked_rows, rows_above, own_rows}
use Rattle.isa.specs.Answers.{first_of, answer_by, answer_of, own_answer, taken, by_state}
use Rattle.isa.specs.Step.{leaves, stepped}
use Rattle.isa.specs.Normal.{ignored_by, cleared_all, normal_operand, instead, normal_of}
use Rattle.isa.specs.Demands.{NormalSame, NormalTwice, NormalAnswers, NormalNever}
use Rattle.isa.specs.Indexed.{ModeBitsStay}
use Rattle.number.proofs.Tests.{true_false}
use Rattle.isa.proofs.Rows.{AllRows, first-all, first-or, asked_all}
use Rattle.isa.proofs.Step.{by, told}
use Rattle.isa.proofs.NormalMac16.{mac16-same, mac16-twice}
use Rattle.isa.proofs.NormalVecint as V'
use Rattle.isa.proofs.NormalVecfp as Vecfp'
use Rattle.isa.proofs.NormalFms64 as Fms64'

-- the call with its normal operand
abbrev normalised : Call → Call
normalised c = call c.instruction c.generation (normal_operand c)

-- the operand with an instruction's ignored bits cleared has its effect
effect-by : (i : Instruction) (gen op : ℕ) → effect_by i gen (cleared_all (ignored_by i gen op) op) ≡ effect_by i gen op
effect-by mac16 gen op = mac16-same op
effect-by vecint gen op = V'.vecint-same gen op
effect-by vecfp gen op = Vecfp'.vecfp-same gen op
effect-by fms64 gen op = Fms64'.fms64-same op
effect-by other gen op = refl

effect-same : (c : Call) → effect_of (normalised c) ≡ effect_of c
unfolding normal_operand
effect-same c = effect-by (instruction_of c) c.generation c.operand

-- ---- the answer

-- two tables of answers with the same rows
Alike : List Row → List Row → Type 0
Alike [] [] = Unit {0}
Alike [] (q ∷ qs) = ⊥
Alike (r ∷ rs) [] = ⊥
Alike (r ∷ rs) (q ∷ qs) = ((r.applies ≡ q.applies) × (r.answer ≡ q.answer)) × Alike rs qs

first-same : (rs qs : List Row) (a b : Answer) → Alike rs qs → a ≡ b → first_of rs a ≡ first_of qs b
unfolding Alike
first-same [] [] a b l e = e
first-same [] (q ∷ qs) a b l e = absurd l
first-same (r ∷ rs) [] a b l e = absurd l
first-same (r ∷ rs) (q ∷ qs) a b l e = λ t. cond (l.0.0 t) (l.0.1 t) (first-same rs qs a b l.1 e t)

-- the rows that vecint and vecfp have, by what they look at
alu-alike : (gen kept op : ℕ) {r q u v : Bool} → bits kept 54 56 ≡ bits op 54 56 → r ≡ q → Vecint.mode kept ≡ Vecint.mode op → u ≡ v
    → Alike (alu_rows gen kept r u) (alu_rows gen op q v)
unfolding Alike
alu-alike gen kept op reserved e mode f = (
  (ap (λ (x : ℕ). not (eqb x 0)) reserved, refl),
  ((e, refl), ((ap (later_mode gen) mode, refl), ((f, refl), tt))),
)

asked_alike : (i : Instruction) (gen op : ℕ) → Alike (asked_by i gen (cleared_all (ignored_by i gen op) op)) (asked_by i gen op)
unfolding Alike
asked_alike mac16 gen op = tt
asked_alike vecint gen op =
    let mode = V'.mode-same gen op in
    alu-alike gen (V'.kept gen op) op (V'.same gen op 54 56 tt) (ap Vecint.reserved_mode mode) mode (V'.not-covered-same gen op)
asked_alike vecfp gen op =
    let mode = Vecfp'.mode-same gen op in
    alu-alike gen (Vecfp'.kept gen op) op (Vecfp'.same gen op 54 56 tt) (ap Vecfp.reserved_mode mode) mode (Vecfp'.not-covered-same gen op)
asked_alike fms64 gen op = ((Fms64'.not-covered-same op, refl), tt)
asked_alike other gen op = tt

answer_same : (n count serial : ℕ) (c : Call) → answer_by n count serial (normalised c) ≡ answer_by n count serial c
unfolding answer_by Alike normal_operand
answer_same n count serial c =
    first-same (rows_above n count serial (normalised c)) (rows_above n count serial c)
    (Done (bytes_on (effect_of (normalised c)))) (Done (bytes_on (effect_of c)))
    ((refl, refl), ((refl, refl), ((refl, refl), ((refl, refl), ((refl, refl), asked_alike (instruction_of c) c.generation c.operand)))))
    (ap (λ (e : Effect). Done (bytes_on e)) (effect-same c))

-- a state of the right length, before its first step, refuses no call, nor does the serial due
own_first : (c : Call) → own_answer c ≡ answer_by state_length 0 0 c
unfolding answer_by own_answer
own_first c = refl

own_same : (c : Call) → own_answer (normalised c) ≡ own_answer c
own_same c = own_first (normalised c) ∙ answer_same state_length 0 0 c ∙ sym (own_first c)

step_same : (c : Call) (serial : ℕ) (s : List ℕ) → stepped (normalised c) serial s ≡ stepped c serial s
unfolding stepped
step_same c serial s = λ t. leaves (answer_same (length s) (count_of s) serial c t) (effect-same c t) s

pub mode-bits_stay : ModeBitsStay
unfolding normal_operand
mode-bits_stay gen op f = V'.mode-bits-same gen op f

-- ---- the demands

-- where there is a normal operand it is the call's
is_normal : (c : Call) (op : ℕ) → normal_of c ≡ Ok op → normal_operand c ≡ op
unfolding normal_of
is_normal c op e = go (own_answer c) e
  where
    go : (a : Answer) → instead a (normal_operand c) ≡ Ok op → normal_operand c ≡ op
    go (Done n) e = cc
    go (NoOp r) e = cc
    go (Refused r) e = cc

pub normal_same : NormalSame
normal_same c op e serial s =
    let of : ℕ → Call = call c.instruction c.generation in
    subst (λ (x : ℕ). (answer_of s (of x) serial ≡ answer_of s c serial) × (stepped (of x) serial s ≡ stepped c serial s))
    (is_normal c op e) (answer_same (length s) (count_of s) serial c, step_same c serial s)

twice-by : (i : Instruction) (gen op : ℕ)
    → let kept : ℕ = cleared_all (ignored_by i gen op) op in
    cleared_all (ignored_by i gen kept) kept ≡ kept
twice-by mac16 gen op = mac16-twice op
twice-by vecint gen op = V'.vecint-twice gen op
twice-by vecfp gen op = Vecfp'.vecfp-twice gen op
twice-by fms64 gen op = Fms64'.fms64-twice op
twice-by other gen op = refl

operand_twice : (c : Call) → normal_operand (normalised c) ≡ normal_operand c
unfolding normal_operand
operand_twice c = twice-by (instruction_of c) c.generation c.operand

pub normal_twice : NormalTwice
normal_twice c op e =
    subst (λ (x : ℕ). normal_of (call c.instruction c.generation x) ≡ Ok x)
    (is_normal c op e) (once c ∙ e ∙ ap Ok (sym (is_normal c op e)))
  where
    once : (c : Call) → normal_of (normalised c) ≡ normal_of c
    once c = unfold normal_of in ap₂ instead (own_same c) (operand_twice c)

-- the answer is the call's own, or a refusal by the state or the serial
OwnOr : Call → Answer → Type 0
OwnOr c a = (a ≡ own_answer c) ⊎ ((r : Refusal) × (by_state r ≡ true) × (a ≡ Refused r))

known_or : (c : Call) (r : Refusal) → by_state r ≡ true → OwnOr c (first_of (known_rows c) (Refused r))
unfolding OwnOr own_answer
known_or c r e = ⊎_elim (λ same. inl same) (λ refused. inr (r, e, refused)) (first-or (known_rows c) (Refused r) _)

own-or : (c : Call) (long last due : Bool) → OwnOr c (by long last due c)
unfolding OwnOr own_answer
own-or c false last due = inr (StateLength, refl, refl)
own-or c true false true = inl refl
own-or c true true due = known_or c LastCount refl
own-or c true false false = known_or c Serial refl

pub normal_answers : (c : Call) (serial : ℕ) (s : List ℕ) → NormalAnswers c serial s
unfolding normal_of OwnOr
normal_answers c serial s = record {
  when-done = λ n e. (normal_operand c, given (own (Done n) e (λ r t f. true_false (ap taken f))));
  when-no-op = λ r e. given (own (NoOp r) e (λ x t f. true_false (ap taken f)));
  when-refused = λ r e no.
      given (own (Refused r) e
      (λ x t f.
      let same : x ≡ r = cc in
      true_false (sym t ∙ ap by_state same ∙ no)));
}
  where
    own : (a : Answer) → answer_of s c serial ≡ a → ((r : Refusal) → by_state r ≡ true → a ≡ Refused r → ⊥) → own_answer c ≡ a
    own a e never = go (own-or c (eqb (length s) state_length) (eqb (count_of s) last_count) (eqb serial (count_of s)))
      where
        is : by (eqb (length s) state_length) (eqb (count_of s) last_count) (eqb serial (count_of s)) c ≡ a
        is = sym (told (length s) (count_of s) serial c refl refl refl) ∙ e

        go : OwnOr c (by (eqb (length s) state_length) (eqb (count_of s) last_count) (eqb serial (count_of s)) c) → own_answer c ≡ a
        go (inl x) = sym x ∙ is
        go (inr (r, t, x)) = absurd (never r t (sym is ∙ x))

    given : {a : Answer} → own_answer c ≡ a → instead (own_answer c) (normal_operand c) ≡ instead a (normal_operand c)
    given x = ap (λ (y : Answer). instead y (normal_operand c)) x

-- ---- no row by the call alone refuses by the state or the serial

abbrev NotByState : Answer → Type 0
NotByState (Done n) = Unit {0}
NotByState (NoOp r) = Unit {0}
NotByState (Refused r) = by_state r ≡ false

pub normal_never : NormalNever
unfolding normal_of own_answer
normal_never c r e =
    go (own_answer c) e (first-all NotByState (own_rows c) (Done (bytes_on (effect_of c))) (refl, (refl, asked)) tt)
  where
    asked : AllRows NotByState (asked_rows c)
    asked = asked_all NotByState tt tt tt refl (instruction_of c) c.generation c.operand

    go : (a : Answer) → instead a (normal_operand c) ≡ Err (not_done.Refused r) → NotByState a → by_state r ≡ false
    go (Done n) e h = cc
    go (NoOp x) e h = cc
    go (Refused x) e h =
        let same : x ≡ r = cc in
        sym (ap by_state same) ∙ h
