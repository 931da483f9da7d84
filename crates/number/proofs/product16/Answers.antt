use Rattle.number.proofs.Range.{widened, mag-mul}
use Rattle.std.proofs.Common.{◌*ℤ◌, refl, arith, to_z-of_z, w16, w32, w64, SFits}
use mir.Facts.{sfits_widen}
use Rattle.number.proofs.product16.Goals as goal

pub overflow_cast-result : goal.overflow_cast-result
overflow_cast-result c = rw (to_z-of_z c.ranges.x) (sfits_widen tt c.ranges.x)

pub overflow_cast-result-2 : goal.overflow_cast-result-2
overflow_cast-result-2 c = rw (to_z-of_z c.ranges.y) (sfits_widen tt c.ranges.y)

in32 : (c : goal.Start) → SFits w32 (c.args.x *ℤ c.args.y)
in32 c = record { sfits = omega (arith, mag-mul c.args.x c.args.y c.ranges.x.sfits c.ranges.y.sfits) }

pub overflow_mul-result : goal.overflow_mul-result
overflow_mul-result c = rw (widened w16 w32 c.args.x tt c.ranges.x, widened w16 w32 c.args.y tt c.ranges.y) (in32 c)

pub overflow_cast-result-3 : goal.overflow_cast-result-3
overflow_cast-result-3 c = rw (widened w16 w32 c.args.x tt c.ranges.x, widened w16 w32 c.args.y tt c.ranges.y, to_z-of_z (in32 c)) (sfits_widen tt (in32 c))

pub returns : goal.returns
returns c =
    let a = c.args in
    rw (widened w16 w32 a.x tt c.ranges.x, widened w16 w32 a.y tt c.ranges.y, widened w32 w64 (a.x *ℤ a.y) tt (in32 c)) (refl, (in32 c).sfits)
