use mathlib.Core.Path.{refl}
use native.Mathlib.Omega.{arith}
use Rattle.sides.proofs.Kept.{unsigned_bound}
use Rattle.sides.proofs.unsigned_product.Goals as goal

pub overflow_mul-result : goal.overflow_mul-result
overflow_mul-result c = omega (arith, unsigned_bound c.args.x c.args.y (omega arith) (omega arith))

pub returns : goal.returns
returns c = (refl, unsigned_bound c.args.x c.args.y (omega arith) (omega arith))
