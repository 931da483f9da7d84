-- What comes back.
-- Assumes nothing.
use Rattle.std.specs.Prelude.{Bool, true, false, cond, not, ◌&&◌, ◌||◌, List, [], ◌∷◌, ◌++◌, ℕ, ◌+◌, leb, eqb, length, Result, Ok, Err}
use Rattle.isa.specs.declared.Reason.{Reason}
use Rattle.isa.specs.declared.Reason.TheVariants as reason
use Rattle.isa.specs.declared.Refusal.{Refusal}
use Rattle.isa.specs.declared.Refusal.TheVariants as refusal
use Rattle.isa.specs.declared.Answer.{Answer}
use Rattle.isa.specs.declared.Answer.TheVariants.{Done, NoOp, Refused}
use Rattle.isa.specs.declared.NotDone.{NotDone}
use Rattle.isa.specs.declared.NotDone.TheVariants as not_done
use Rattle.isa.specs.Operand.{bits}
use Rattle.isa.specs.State.{state_length, count_of, last_count}
use Rattle.isa.specs.Effect.{bytes_on}
use Rattle.isa.specs.Vecint as Vecint
use Rattle.isa.specs.Vecfp as Vecfp
use Rattle.isa.specs.Fms64 as Fms64
use Rattle.isa.specs.Call.{Call, Instruction, mac16, vecint, vecfp, fms64, other, instruction_of, effect_of}

-- ---- the numbers of 01

-- no-op 1 to 3
abbrev pub reason_number : Reason → ℕ
reason_number reason.ReservedBits = 1
reason_number reason.ReservedMode = 2
reason_number reason.LaterGeneration = 3

-- refused 1 to 4; 5 to 7 are of files; refused 8 and 9
abbrev pub refusal_number : Refusal → ℕ
refusal_number refusal.StateLength = 1
refusal_number refusal.Generation = 2
refusal_number refusal.Instruction = 3
refusal_number refusal.NotCovered = 4
refusal_number refusal.Serial = 8
refusal_number refusal.LastCount = 9

-- "there the answer is one number": what done reports ("the host number included"), "or 65,536 + no-op reason, or 131,072 + refusal"
abbrev pub no_op_number : Reason → ℕ
no_op_number r = 65536 + reason_number r

abbrev pub refused_number : Refusal → ℕ
refused_number r = 131072 + refusal_number r

abbrev pub host_number : Answer → ℕ
host_number (Done bytes) = bytes
host_number (NoOp r) = no_op_number r
host_number (Refused r) = refused_number r

abbrev pub not_done_number : NotDone → ℕ
not_done_number (not_done.NoOp r) = no_op_number r
not_done_number (not_done.Refused r) = refused_number r

-- the same for the normal operand; 0 where there is one
abbrev pub normal_number : Result ℕ NotDone → ℕ
normal_number (Ok op) = 0
normal_number (Err e) = not_done_number e

-- ---- the table

pub record Row : Type 0 where
  pub applies : Bool
  pub answer : Answer

abbrev row : Bool → Answer → Row
row applies answer = record { applies = applies; answer = answer }

-- no-op 1: any of bits 54..56 set
abbrev pub reserved_bits : ℕ → Bool
reserved_bits op = not (eqb (bits op 54 56) 0)

-- no-op 3: ALU mode 10, 11, 12 on generation 1
abbrev pub later_mode : ℕ → ℕ → Bool
later_mode gen m = leb 10 m && leb m 12 && eqb gen 1

-- the rows that vecint and vecfp have: no-op 1 to 3, where no-op 2 is for a mode that the instruction reserves, and refused 4 for what of it is not
-- covered
abbrev pub alu_rows : ℕ → ℕ → Bool → Bool → List Row
alu_rows gen op reserved uncovered =
    row (reserved_bits op) (NoOp reason.ReservedBits)
    ∷ row reserved (NoOp reason.ReservedMode)
    ∷ row (later_mode gen (Vecint.mode op)) (NoOp reason.LaterGeneration)
    ∷ row uncovered (Refused refusal.NotCovered)
    ∷ []

abbrev pub vecint_rows : ℕ → ℕ → List Row
vecint_rows gen op = alu_rows gen op (Vecint.reserved_mode (Vecint.mode op)) (Vecint.not_covered op)

-- "Vecfp keeps no-ops 1 to 3 by its own mode list."
abbrev pub vecfp_rows : ℕ → ℕ → List Row
vecfp_rows gen op = alu_rows gen op (Vecfp.reserved_mode (Vecint.mode op)) (Vecfp.not_covered op)

abbrev pub fms64_rows : ℕ → List Row
fms64_rows op = row (Fms64.not_covered op) (Refused refusal.NotCovered) ∷ []

-- whether an instruction is none of those covered
abbrev pub is_other : Instruction → Bool
is_other mac16 = false
is_other vecint = false
is_other vecfp = false
is_other fms64 = false
is_other other = true

-- the rows by a call's generation and instruction
abbrev pub known_rows : Call → List Row
known_rows c =
    -- refused 2: generation not 1 or 2
    row (not (eqb c.generation 1 || eqb c.generation 2)) (Refused refusal.Generation)
    -- refused 3: "Refusal 3 now lets 11 and 19 through."
    ∷ row (is_other (instruction_of c)) (Refused refusal.Instruction)
    ∷ []

-- the rows by what a known call asks for
abbrev pub asked_by : Instruction → ℕ → ℕ → List Row
asked_by mac16 gen op = []
asked_by vecint gen op = vecint_rows gen op
asked_by vecfp gen op = vecfp_rows gen op
asked_by fms64 gen op = fms64_rows op
asked_by other gen op = []

abbrev pub asked_rows : Call → List Row
asked_rows c = asked_by (instruction_of c) c.generation c.operand

-- "After refusals 1 to 3 and before no-ops: serial not equal to the count is refused 8; a count at 2^64 - 1 is refused 9, tested before 8."
abbrev pub serial_rows : ℕ → ℕ → List Row
serial_rows count serial =
    row (eqb count last_count) (Refused refusal.LastCount)
    ∷ row (not (eqb serial count)) (Refused refusal.Serial)
    ∷ []

-- the rows above "done", for a state of n bytes with this count, and this serial
abbrev pub rows_above : ℕ → ℕ → ℕ → Call → List Row
rows_above n count serial c =
    -- "Refusal 1 now tests 5,128"
    row (not (eqb n state_length)) (Refused refusal.StateLength)
    ∷ (known_rows c ++ (serial_rows count serial ++ asked_rows c))

-- those by the call alone
abbrev pub own_rows : Call → List Row
own_rows c = known_rows c ++ asked_rows c

-- "First row that applies wins."
abbrev pub first_of : List Row → Answer → Answer
first_of [] otherwise = otherwise
first_of (r ∷ rs) otherwise = cond r.applies r.answer (first_of rs otherwise)

-- "done n: otherwise". "Done now reports Z bytes in the enabled lanes, at most 4,096, wherever it reported lanes, the host number included."
abbrev done_answer : Call → Answer
done_answer c = Done (bytes_on (effect_of c))

-- what a table says before the call is done: whether it passes
abbrev pub passed : Answer → Result Unit NotDone
passed (Done bytes) = Ok tt
passed (NoOp r) = Err (not_done.NoOp r)
passed (Refused r) = Err (not_done.Refused r)

unfoldable pub answer_by : ℕ → ℕ → ℕ → Call → Answer
answer_by n count serial c = first_of (rows_above n count serial c) (done_answer c)

-- what a call is answered on a state, sent with a serial
abbrev pub answer_of : List ℕ → Call → ℕ → Answer
answer_of s c serial = answer_by (length s) (count_of s) serial c

-- what a call is answered by itself, where neither the state nor the serial refuses it
unfoldable pub own_answer : Call → Answer
own_answer c = first_of (own_rows c) (done_answer c)

abbrev pub is_done : Answer → Bool
is_done (Done bytes) = true
is_done (NoOp r) = false
is_done (Refused r) = false

-- whether a step is taken, so that it counts: "Done and no-op raise the count by one; refusals leave it."
abbrev pub taken : Answer → Bool
taken (Done bytes) = true
taken (NoOp r) = true
taken (Refused r) = false

-- the refusals by the state or the serial: 1, 8 and 9
abbrev pub by_state : Refusal → Bool
by_state refusal.StateLength = true
by_state refusal.Generation = false
by_state refusal.Instruction = false
by_state refusal.NotCovered = false
by_state refusal.Serial = true
by_state refusal.LastCount = true
