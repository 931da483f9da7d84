use Rattle.reduction.proofs.Cases.{clamp-same, value-clamped, value-left}
use mir.Facts.{to_z-of_z}
use borrow.Author.Rules.{sfits_of}
use mathlib.Core.Path.{ap, ◌∙◌}
use Rattle.number.specs.Integers.{clamp}
use Rattle.reduction.specs.Reduction.{shifted_by, low_end, highest}
use mir.Syntax.{w32}
use Rattle.reduction.proofs.value32.Goals as goal

pub returns-in-None : goal.returns-in-None
returns-in-None c =
    let a = c.args in
    to_z-of_z {w = w32} (sfits_of c.moved32-v.type_inv)
    ∙ value-left a.how a.old c.moved32-v.result (c.moved32-v.ensures ∙ ap (shifted_by a.how) (to_z-of_z c.ranges.old)) c.in-None.is

pub returns-in-Some : goal.returns-in-Some
returns-in-Some c =
    let a = c.args in
    let to = c.in-Some.to in
    to_z-of_z {w = w32} (sfits_of c.clamped32.type_inv)
    ∙ c.clamped32.ensures
    ∙ (λ i. clamp ((to_z-of_z {w = w32} (sfits_of c.low32.type_inv) ∙ c.low32.ensures) i)
    ((to_z-of_z {w = w32} (sfits_of c.high32.type_inv) ∙ c.high32.ensures) i)
    (to_z-of_z {w = w32} {z = c.moved32-v.result} (sfits_of c.moved32-v.type_inv) i))
    ∙ clamp-same (low_end to.below to.width) (highest to.below to.width) c.moved32-v.result c.moved32-v.type_inv
    ∙ value-clamped a.how a.old c.moved32-v.result (c.moved32-v.ensures ∙ ap (shifted_by a.how) (to_z-of_z c.ranges.old)) to c.in-Some.is
