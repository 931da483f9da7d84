use lib.Signed.{shr_z, mag_shr}
use Rattle.std.proofs.Common.{◌%◌, ◌^◌, refl, arith, to_z-of_z, w64, SFits}
use Rattle.number.proofs.shifted.Goals as goal

pub returns : goal.returns
returns c =
    let h : SFits w64 (shr_z c.args.v (2 ^ (c.args.s % 32))) = record { sfits = omega (arith, mag_shr c.args.v (2 ^ (c.args.s % 32))) } in
    rw (to_z-of_z c.ranges.v, to_z-of_z h) (refl, mag_shr c.args.v (2 ^ (c.args.s % 32)))
