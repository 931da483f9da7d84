use lib.IntN.{◌*ℤ◌}
use mathlib.Core.Path.{refl}
use borrow.Author.Rules.{sfits_of}
use mir.Facts.{to_z-of_z}
use mir.Syntax.{w16, w32}
use native.Mathlib.Omega.{arith}
use Rattle.number.proofs.Range.{widened, mag-mul}
use mir.Val.{SFits}
use mir.Facts.{sfits_widen}
use Rattle.sides.proofs.signed_product.Goals as goal

pub overflow_cast-result : goal.overflow_cast-result
overflow_cast-result c = rw (to_z-of_z c.ranges.x) (sfits_widen tt c.ranges.x)

pub overflow_cast-result-2 : goal.overflow_cast-result-2
overflow_cast-result-2 c = rw (to_z-of_z c.ranges.y) (sfits_widen tt c.ranges.y)

pub overflow_mul-result : goal.overflow_mul-result
overflow_mul-result c =
    let a = c.args in
    rw (widened w16 w32 a.x tt c.ranges.x, widened w16 w32 a.y tt c.ranges.y) (sfits_of (omega (arith, mag-mul a.x a.y c.ranges.x.sfits c.ranges.y.sfits)))

pub returns : goal.returns
returns c =
    let a = c.args in
    let h : SFits w32 (a.x *ℤ a.y) = sfits_of (omega (arith, mag-mul a.x a.y c.ranges.x.sfits c.ranges.y.sfits)) in rw
    (widened w16 w32 a.x tt c.ranges.x, widened w16 w32 a.y tt c.ranges.y, to_z-of_z h)
    (refl, omega (arith, mag-mul a.x a.y c.ranges.x.sfits c.ranges.y.sfits))
