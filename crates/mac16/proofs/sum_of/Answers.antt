use mathlib.Core.Bool.{not}
use mathlib.Core.Path.{ap}
use Rattle.operand.proofs.Fields.{bits-lt}
use native.Mathlib.Omega.{arith}
use Rattle.mac16.proofs.sum_of.Goals as goal

pub overflow_cast-result : goal.overflow_cast-result
overflow_cast-result c = record { fits = omega (arith, c.field.ensures, bits-lt c.args.op 55 59) }

pub returns : goal.returns
returns c = (c.field.ensures, omega (arith, c.field.ensures, bits-lt c.args.op 55 59), ap not c.flag.ensures)
