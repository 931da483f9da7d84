-- The normal operand's answer, from what the rows say before the call is done.
-- Assumes nothing.
use mathlib.Core.Path.{◌≡◌, refl, sym, ap, ◌∙◌}
use mathlib.Core.Bool.{Bool, true, false, cond}
use mathlib.Core.List.{List, [], ◌∷◌}
use Prim.Native.Nat.{ℕ}
use Rattle.std.specs.Prelude.{Result, Ok, Err}
use Rattle.isa.specs.declared.NotDone.{NotDone}
use Rattle.isa.specs.declared.Answer.{Answer}
use Rattle.isa.specs.declared.Answer.TheVariants.{Done, NoOp, Refused}
use Rattle.isa.specs.Effect.{bytes_on}
use Rattle.isa.specs.Call.{Call, effect_of}
use Rattle.isa.specs.Answers.{Row, own_rows, first_of, passed, own_answer}
use Rattle.isa.specs.Normal.{normal_operand, normal_of, instead}

-- the operand where the rows let the call pass
abbrev pub where_passed : Result Unit NotDone → ℕ → Result ℕ NotDone
where_passed (Ok t) op = Ok op
where_passed (Err e) op = Err e

instead_passed : (a : Answer) (op : ℕ) → where_passed (passed a) op ≡ instead a op
instead_passed (Done n) op = refl
instead_passed (NoOp r) op = refl
instead_passed (Refused r) op = refl

-- the count of a done step is not looked at
any_count : (rows : List Row) (m n op : ℕ) → instead (first_of rows (Done m)) op ≡ instead (first_of rows (Done n)) op
any_count [] m n op = refl
any_count (r ∷ rows) m n op = picked (first_of rows (Done m)) (first_of rows (Done n)) r.applies (any_count rows m n op)
  where
    picked : (a b : Answer) (t : Bool) → instead a op ≡ instead b op → instead (cond t r.answer a) op ≡ instead (cond t r.answer b) op
    picked a b true e = refl
    picked a b false e = e

pub normal_by : (c : Call) (p : Result Unit NotDone) → p ≡ passed (first_of (own_rows c) (Done 0)) → where_passed p (normal_operand c) ≡ normal_of c
unfolding normal_of own_answer
normal_by c p e =
    ap (λ (x : Result Unit NotDone). where_passed x (normal_operand c)) e
    ∙ instead_passed (first_of (own_rows c) (Done 0)) (normal_operand c)
    ∙ any_count (own_rows c) 0 (bytes_on (effect_of c)) (normal_operand c)
