-- The normal operand: the operand with its ignored bits cleared.
-- Assumes nothing.
use Rattle.std.specs.Prelude.{Bool, true, cond, not, ◌&&◌, List, [], ◌∷◌, ◌++◌, ℕ, eqb, Result, Ok, Err}
use Rattle.isa.specs.declared.Answer.{Answer}
use Rattle.isa.specs.declared.Answer.TheVariants.{Done, NoOp, Refused}
use Rattle.isa.specs.declared.NotDone.{NotDone}
use Rattle.isa.specs.declared.NotDone.TheVariants as not_done
use Rattle.isa.specs.Operand.{bit, cleared}
use Rattle.isa.specs.Mac16 as Mac16
use Rattle.isa.specs.Vecint as Vecint
use Rattle.isa.specs.Fms64 as Fms64
use Rattle.isa.specs.Call.{Call, Instruction, mac16, vecint, vecfp, fms64, other, instruction_of}
use Rattle.isa.specs.Answers.{own_answer}

-- bits first to last, ignored on a condition
pub record Ignored : Type 0 where
  pub if : Bool
  pub first : ℕ
  pub last : ℕ

abbrev also : Bool → ℕ → ℕ → Ignored
also condition first last = record { if = condition; first = first; last = last }

abbrev always : ℕ → ℕ → Ignored
always = also true

-- mac16, "Ignored: 48..54, 39..40, 30..31, 26, 19, 9". fms64 has the same, but for 48..62: bits 60 to 62 are "ignored otherwise".
abbrev pub ignored_by_all : ℕ → List Ignored
ignored_by_all last = always 48 last ∷ always 39 40 ∷ always 30 31 ∷ always 26 26 ∷ always 19 19 ∷ always 9 9 ∷ []

-- "vector also 62 and 32..38; matrix 16 also 21..25; matrix 32 also 20..25."
abbrev pub ignored_by_form : Mac16.Form → List Ignored
ignored_by_form Mac16.vector = always 62 62 ∷ always 32 38 ∷ []
ignored_by_form Mac16.matrix16 = always 21 25 ∷ []
ignored_by_form Mac16.matrix32 = always 20 25 ∷ []

abbrev pub mac16_ignored : ℕ → List Ignored
mac16_ignored op = ignored_by_all 54 ++ ignored_by_form (Mac16.form_of op)

-- vecint, "Ignored (in done steps): 57, 46, 41, 19, 9"
abbrev pub ignored_always : List Ignored
ignored_always = always 57 57 ∷ always 46 46 ∷ always 41 41 ∷ always 19 19 ∷ always 9 9 ∷ []

-- "M1 also 31; several vectors also 35..40, and 24 if four"
abbrev pub ignored_by_vectors : Bool → Bool → Bool → List Ignored
ignored_by_vectors m1 several four = also m1 31 31 ∷ also several 35 40 ∷ also (several && four) 24 24 ∷ []

-- "modes 5 and 6 also 58..62 and 42..45; mode 4 also 27, 28 and both offsets"
abbrev pub ignored_by_mode : Bool → Bool → List Ignored
ignored_by_mode saturates reduces =
    also saturates 58 62 ∷ also saturates 42 45 ∷ also reduces 27 28 ∷ also reduces 10 18 ∷ also reduces 0 8 ∷ []

-- of an indexed load, "bit 52 is ignored and cleared"; of any other it is the ALU mode's
abbrev pub ignored_by_load : Bool → List Ignored
ignored_by_load indexed = also indexed 52 52 ∷ []

-- "outside mode 4, r = 2 also bit 20 and r = 4 also 20, 21." In mode 4 rows_each is 1.
abbrev pub ignored_by_rows : ℕ → List Ignored
ignored_by_rows r = also (eqb r 2) 20 20 ∷ also (eqb r 4) 20 21 ∷ []

abbrev pub vecint_ignored_if : Bool → Bool → Bool → Bool → Bool → Bool → ℕ → List Ignored
vecint_ignored_if m1 several four saturates reduces indexed r =
    ignored_always ++ ignored_by_vectors m1 several four ++ ignored_by_mode saturates reduces ++ ignored_by_load indexed ++ ignored_by_rows r

abbrev pub vecint_ignored : ℕ → ℕ → List Ignored
vecint_ignored gen op =
    vecint_ignored_if (eqb gen 1) (Vecint.several gen op) (bit op 25) (Vecint.saturates op) (Vecint.reduces op) (bit op 53) (Vecint.rows_each op)

-- vecfp, "57 | 7 | Ignored", and 46, 41, 26, 19, 9
abbrev pub vecfp_always : List Ignored
vecfp_always = always 57 63 ∷ always 46 46 ∷ always 41 41 ∷ always 26 26 ∷ always 19 19 ∷ always 9 9 ∷ []

-- "(31=0) 37 | 1 | Ignored"; with several vectors 35..40 are
abbrev pub ignored_by_value : Bool → List Ignored
ignored_by_value several = also (not several) 37 37 ∷ []

-- "(31 too for vecfp on M1, 24 with four vectors ..)"
abbrev pub vecfp_ignored_if : Bool → Bool → Bool → List Ignored
vecfp_ignored_if m1 several four = vecfp_always ++ ignored_by_vectors m1 several four ++ ignored_by_value several

abbrev pub vecfp_ignored : ℕ → ℕ → List Ignored
vecfp_ignored gen op = vecfp_ignored_if (eqb gen 1) (Vecint.several gen op) (bit op 25)

-- fms64: Y's enables are "Ignored in vector mode", and of the Z row "High bits ignored in matrix mode": "23..25 for fms64 matrix"
abbrev pub fms64_ignored_if : Bool → List Ignored
fms64_ignored_if vector = ignored_by_all 62 ++ also vector 32 38 ∷ also (not vector) 23 25 ∷ []

abbrev pub fms64_ignored : ℕ → List Ignored
fms64_ignored op = fms64_ignored_if (Fms64.vector op)

abbrev pub ignored_by : Instruction → ℕ → ℕ → List Ignored
ignored_by mac16 gen op = mac16_ignored op
ignored_by vecint gen op = vecint_ignored gen op
ignored_by vecfp gen op = vecfp_ignored gen op
ignored_by fms64 gen op = fms64_ignored op
ignored_by other gen op = []

abbrev pub ignored : Call → List Ignored
ignored c = ignored_by (instruction_of c) c.generation c.operand

-- "The normal operand is the operand with these cleared."
abbrev pub cleared_all : List Ignored → ℕ → ℕ
cleared_all [] op = op
cleared_all (b ∷ bs) op = cleared_all bs (cond b.if (cleared op b.first b.last) op)

unfoldable pub normal_operand : Call → ℕ
normal_operand c = cleared_all (ignored c) c.operand

-- "Asking for it takes generation, instruction and operand, and gives the step's own refusal or no-op where the step isn't done."
-- There is neither state nor serial, so the answer is the call's own: never refused 1, 8 or 9.
abbrev pub instead : Answer → ℕ → Result ℕ NotDone
instead (Done bytes) op = Ok op
instead (NoOp r) op = Err (not_done.NoOp r)
instead (Refused r) op = Err (not_done.Refused r)

unfoldable pub normal_of : Call → Result ℕ NotDone
normal_of c = instead (own_answer c) (normal_operand c)

-- the operand that is handed back: the normal one, or the operand as given where the step isn't done
abbrev pub handed_back : ℕ → Result ℕ NotDone → ℕ
handed_back op (Ok n) = n
handed_back op (Err e) = op
