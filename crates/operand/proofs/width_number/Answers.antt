use native.Mathlib.Omega.{arith}
use Rattle.operand.proofs.Fields.{bits-lt}
use Rattle.operand.proofs.width_number.Goals as goal

pub returns : goal.returns
returns c = (c.field.ensures, omega (arith, c.field.ensures, bits-lt c.args.op 42 45))
