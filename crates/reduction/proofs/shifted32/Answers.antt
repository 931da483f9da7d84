use lib.Signed.{shr_z, mag_shr}
use Prim.Native.Nat.{◌%◌, ◌^◌}
use mir.Val.{SFits}
use mir.Syntax.{w32}
use mir.Facts.{to_z-of_z}
use native.Mathlib.Omega.{arith}
use mathlib.Core.Path.{refl}
use Rattle.reduction.proofs.shifted32.Goals as goal

pub returns : goal.returns
returns c =
    let h : SFits w32 (shr_z c.args.v (2 ^ (c.args.s % 32))) = record { sfits = omega (arith, mag_shr c.args.v (2 ^ (c.args.s % 32)), c.ranges.v.sfits) } in
    rw (to_z-of_z c.ranges.v, to_z-of_z h) (refl, mag_shr c.args.v (2 ^ (c.args.s % 32)))
