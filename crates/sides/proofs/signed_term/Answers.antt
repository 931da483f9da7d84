use Prim.Native.Nat.{◌%◌}
use lib.IntN.{◌*ℤ◌}
use native.Mathlib.Omega.{arith}
use Rattle.number.proofs.Range.{bits-signed}
use mathlib.Core.Path.{refl, ap₂, ◌∙◌}
use mathlib.Core.Bool.{false}
use borrow.Author.Rules.{sfits_of}
use mir.Facts.{to_z-of_z}
use Rattle.number.specs.Integers.{signed}
use Rattle.sides.proofs.Kept.{kept-term}
use mir.Syntax.{w16, w32}
use Rattle.sides.proofs.signed_term.Goals as goal

pub returns : goal.returns
returns c =
    let a = c.args in
    to_z-of_z {w = w32} (sfits_of c.moved.type_inv) ∙ kept-term false a.shift.rounds (a.shift.by % 32) (signed 2 a.x) (signed 2 a.y) _ c.moved.result
    c.moved.type_inv (to_z-of_z {w = w32} (sfits_of c.signed_product.type_inv) ∙ c.signed_product.ensures.0
    ∙ ap₂ ◌*ℤ◌ (to_z-of_z {w = w16} (sfits_of c.cast_signed.type_inv) ∙ c.cast_signed.ensures ∙ bits-signed w16 2 a.x refl refl (omega arith))
    (to_z-of_z {w = w16} (sfits_of c.cast_signed-2.type_inv) ∙ c.cast_signed-2.ensures ∙ bits-signed w16 2 a.y refl refl (omega arith))) c.moved.ensures
