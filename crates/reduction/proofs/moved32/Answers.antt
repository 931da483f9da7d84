use Rattle.reduction.proofs.Cases.{added-fits, added_is, sum-fits_32}
use mir.Syntax.{w32}
use mir.Facts.{to_z-of_z}
use borrow.Author.Rules.{sfits_of}
use mathlib.Core.Path.{ap, ◌∙◌}
use Prim.Native.Nat.{◌%◌}
use lib.IntN.{ℤ, ◌+ℤ◌}
use Rattle.number.specs.Integers.{◌≫◌}
use mir.Syntax.{w32}
use Rattle.reduction.proofs.moved32.Goals as goal

pub overflow_add-old : goal.overflow_add-old
overflow_add-old c =
    let a = c.args in
    added-fits w32 a.old c.rounding32.result c.ranges.old (sfits_of c.rounding32.type_inv)
    (sum-fits_32 a.old c.rounding32.result c.requires c.rounding32.ensures.1)

pub returns : goal.returns
returns c =
    let a = c.args in
    to_z-of_z {w = w32} (sfits_of c.shifted32.type_inv) ∙ c.shifted32.ensures.0
    ∙ ap (λ (x : ℤ). x ≫ (a.how.shift % 32)) (added_is w32 a.old c.rounding32.result c.ranges.old (sfits_of c.rounding32.type_inv)
    (sum-fits_32 a.old c.rounding32.result c.requires c.rounding32.ensures.1) ∙ ap (λ (x : ℤ). a.old +ℤ x) c.rounding32.ensures.0)
