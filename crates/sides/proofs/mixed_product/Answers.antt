use lib.IntN.{pos, ◌*ℤ◌}
use mathlib.Core.Path.{refl}
use borrow.Author.Rules.{sfits_of}
use mir.Facts.{to_z-of_z}
use mir.Syntax.{w16, w32}
use native.Mathlib.Omega.{arith}
use Rattle.number.proofs.Range.{widened}
use Rattle.sides.proofs.Kept.{mag-mixed}
use mir.Val.{SFits}
use mir.Facts.{to_z_pos, sfits_widen}
use Rattle.sides.proofs.mixed_product.Goals as goal

pub overflow_cast-result : goal.overflow_cast-result
overflow_cast-result c = rw (to_z-of_z c.ranges.x) (sfits_widen tt c.ranges.x)

pub overflow_mul-result : goal.overflow_mul-result
overflow_mul-result c =
    let a = c.args in
    let h : SFits w32 (a.x *ℤ pos a.y) = sfits_of (omega (arith, mag-mixed a.x a.y c.ranges.x.sfits (omega arith))) in rw
    (widened w16 w32 a.x tt c.ranges.x, to_z_pos w32 {n = a.y} (omega arith)) h

pub returns : goal.returns
returns c =
    let a = c.args in
    let h : SFits w32 (a.x *ℤ pos a.y) = sfits_of (omega (arith, mag-mixed a.x a.y c.ranges.x.sfits (omega arith))) in rw
    (widened w16 w32 a.x tt c.ranges.x, to_z_pos w32 {n = a.y} (omega arith), to_z-of_z h) (refl, mag-mixed a.x a.y c.ranges.x.sfits (omega arith))
