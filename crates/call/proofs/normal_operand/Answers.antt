use Rattle.std.proofs.Common.{rules}
use Rattle.isa.specs.Normal.{normal_operand}
use Rattle.call.proofs.normal_operand.Goals as goal

pub returns-in-14 : goal.returns-in-14
unfolding normal_operand
returns-in-14 c = search rules

pub returns-in-18 : goal.returns-in-18
unfolding normal_operand
returns-in-18 c = search rules

pub returns-in-19 : goal.returns-in-19
unfolding normal_operand
returns-in-19 c = search rules

pub returns-in-11 : goal.returns-in-11
unfolding normal_operand
returns-in-11 c = search rules

pub returns-in_default : goal.returns-in_default
unfolding normal_operand
returns-in_default c = search rules
