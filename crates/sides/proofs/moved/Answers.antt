use Prim.Native.Nat.{◌%◌}
use lib.IntN.{ℤ, ◌+ℤ◌}
use mathlib.Core.Path.{ap, ◌∙◌}
use borrow.Author.Rules.{sfits_of}
use mir.Facts.{to_z-of_z}
use Rattle.number.specs.Integers.{◌≫◌}
use Rattle.sides.proofs.Kept.{sum_fits, sum_is, rounded}
use mir.Syntax.{w32}
use Rattle.sides.proofs.moved.Goals as goal

pub overflow_add-v : goal.overflow_add-v
overflow_add-v c =
    let a = c.args in
    sum_fits a.v c.rounding32.result c.ranges.v (sfits_of c.rounding32.type_inv) (rounded a.v c.rounding32.result c.requires c.rounding32.ensures.1)

pub returns : goal.returns
returns c =
    let a = c.args in
    to_z-of_z {w = w32} (sfits_of c.shifted32.type_inv) ∙ c.shifted32.ensures
    ∙ ap (λ (z : ℤ). z ≫ (a.shift.by % 32)) (sum_is a.v c.rounding32.result c.ranges.v (sfits_of c.rounding32.type_inv)
    (rounded a.v c.rounding32.result c.requires c.rounding32.ensures.1) ∙ ap (λ (z : ℤ). a.v +ℤ z) c.rounding32.ensures.0)
