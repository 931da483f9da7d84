use Prim.Native.Nat.{◌%◌}
use Rattle.number.proofs.Range.{bits-signed}
use mathlib.Core.Path.{refl, ◌∙◌}
use borrow.Author.Rules.{sfits_of}
use mir.Facts.{to_z-of_z}
use native.Mathlib.Omega.{arith}
use Rattle.sides.proofs.Kept.{kept-unsigned}
use mir.Syntax.{w32}
use Rattle.sides.proofs.unsigned_term.Goals as goal

pub returns : goal.returns
returns c =
    let a = c.args in
    kept-unsigned a.shift.rounds (a.shift.by % 32) a.x a.y c.unsigned_product.result c.unsigned_moved.result _ (omega arith) c.unsigned_product.ensures.0
    c.unsigned_moved.ensures
    (to_z-of_z {w = w32} (sfits_of c.cast_signed.type_inv) ∙ c.cast_signed.ensures ∙ bits-signed w32 4 c.unsigned_moved.result refl refl (omega arith))
