use Rattle.operand.proofs.Fields.{bits-lt}
use native.Mathlib.Omega.{arith}
use Rattle.fms64.proofs.z_row.Goals as goal

pub returns : goal.returns
returns c = (c.field.ensures, omega (arith, c.field.ensures, bits-lt c.args.op 20 25))
