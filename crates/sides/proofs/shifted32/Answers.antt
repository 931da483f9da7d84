use mathlib.Core.Path.{◌≡◌, ap, ◌∙◌}
use native.Mathlib.Omega.{arith}
use Prim.Native.Nat.{◌%◌, ◌^◌}
use lib.IntN.{ℤ}
use lib.Signed.{mag, mag_shr}
use mir.Syntax.{w32, w64}
use mir.Val.{SFits, to_z, of_z}
use mir.Facts.{to_z-of_z, sfits_widen}
use borrow.Author.Rules.{sfits_of}
use Rattle.number.specs.Integers.{◌≫◌}
use Rattle.number.proofs.Range.{widened}
use Rattle.sides.proofs.shifted32.Goals as goal

pub overflow_cast-v : goal.overflow_cast-v
overflow_cast-v c = rw (to_z-of_z {w = w32} c.ranges.v) (sfits_widen {w = w32} {w' = w64} tt c.ranges.v)

pub overflow_cast-result : goal.overflow_cast-result
overflow_cast-result c =
    let a = c.args in
    let is : c.shifted.result ≡ a.v ≫ (a.s % 32) =
    c.shifted.ensures.0 ∙ ap (λ (z : ℤ). z ≫ (a.s % 32)) (widened w32 w64 a.v tt c.ranges.v)
    in
    rw (to_z-of_z {w = w64} (sfits_of c.shifted.type_inv))
    (record { sfits = omega (arith, mag_shr a.v (2 ^ (a.s % 32)), ap mag is, c.ranges.v.sfits) })

pub returns : goal.returns
returns c =
    let a = c.args in
    let is : c.shifted.result ≡ a.v ≫ (a.s % 32) =
    c.shifted.ensures.0 ∙ ap (λ (z : ℤ). z ≫ (a.s % 32)) (widened w32 w64 a.v tt c.ranges.v)
    in
    let h : SFits w32 c.shifted.result = record { sfits = omega (arith, mag_shr a.v (2 ^ (a.s % 32)), ap mag is, c.ranges.v.sfits) } in
    ap (λ (z : ℤ). to_z w32 (of_z w32 z)) {y = c.shifted.result} (to_z-of_z {w = w64} (sfits_of c.shifted.type_inv))
    ∙ to_z-of_z {w = w32} h ∙ is
