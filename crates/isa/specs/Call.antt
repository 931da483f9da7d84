-- A call of the step.
-- Assumes nothing.
use Rattle.std.specs.Prelude.{cond, ℕ, eqb}
use Rattle.isa.specs.declared.Call as declared
use Rattle.isa.specs.Effect.{Effect, nothing}
use Rattle.isa.specs.Mac16 as Mac16
use Rattle.isa.specs.Vecint as Vecint
use Rattle.isa.specs.Vecfp as Vecfp
use Rattle.isa.specs.Fms64 as Fms64

-- "an instruction number .., a generation (1 or 2) and a 64-bit operand"
abbrev pub Call : Type 0
Call = declared.Call

abbrev pub call : ℕ → ℕ → ℕ → Call
call instruction generation operand = record { instruction = instruction; generation = generation; operand = operand }

-- the instructions that are covered, and all other numbers together
pub data Instruction : Type 0 where
  mac16 : Instruction
  vecint : Instruction
  vecfp : Instruction
  fms64 : Instruction
  other : Instruction

-- "14 mac16, 18 vecint"; "vecfp (19)", "fms64 (11)"
abbrev pub instruction_by : ℕ → Instruction
instruction_by n = cond (eqb n 14) mac16 (cond (eqb n 18) vecint (cond (eqb n 19) vecfp (cond (eqb n 11) fms64 other)))

abbrev pub instruction_of : Call → Instruction
instruction_of c = instruction_by c.instruction

-- what a call does where it is done
abbrev pub effect_by : Instruction → ℕ → ℕ → Effect
effect_by mac16 gen op = Mac16.mac16 op
effect_by vecint gen op = Vecint.vecint gen op
effect_by vecfp gen op = Vecfp.vecfp gen op
effect_by fms64 gen op = Fms64.fms64 op
effect_by other gen op = nothing

abbrev pub effect_of : Call → Effect
effect_of c = effect_by (instruction_of c) c.generation c.operand
