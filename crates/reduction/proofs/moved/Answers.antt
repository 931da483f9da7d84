use Rattle.reduction.proofs.Cases.{added-fits, added_is, sum_fits}
use mir.Syntax.{w64}
use mir.Facts.{to_z-of_z}
use borrow.Author.Rules.{sfits_of}
use mathlib.Core.Path.{ap, ◌∙◌}
use Prim.Native.Nat.{◌%◌}
use lib.IntN.{ℤ, ◌+ℤ◌}
use Rattle.number.specs.Integers.{◌≫◌}
use Rattle.reduction.proofs.moved.Goals as goal

pub overflow_add-old : goal.overflow_add-old
overflow_add-old c =
    let a = c.args in
    added-fits w64 a.old c.rounding.result c.ranges.old (sfits_of c.rounding.type_inv) (sum_fits a.old c.rounding.result c.requires c.rounding.ensures.1)

pub returns : goal.returns
returns c =
    let a = c.args in
    to_z-of_z {w = w64} (sfits_of c.shifted.type_inv) ∙ c.shifted.ensures.0
    ∙ ap (λ (x : ℤ). x ≫ (a.how.shift % 32)) (added_is w64 a.old c.rounding.result c.ranges.old (sfits_of c.rounding.type_inv)
    (sum_fits a.old c.rounding.result c.requires c.rounding.ensures.1) ∙ ap (λ (x : ℤ). a.old +ℤ x) c.rounding.ensures.0)
