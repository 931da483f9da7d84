use native.Mathlib.Omega.{arith}
use Rattle.operand.proofs.Fields.{bits-lt}
use Rattle.masks.proofs.mask_at.Goals as goal

pub overflow_cast-n : goal.overflow_cast-n
overflow_cast-n c = omega (arith, c.field-n.ensures, bits-lt c.args.op 32 37)
