use Rattle.reduction.proofs.Cases.{value-clamped, value-left}
use mir.Facts.{to_z-of_z}
use borrow.Author.Rules.{sfits_of}
use mathlib.Core.Path.{ap, ◌∙◌}
use Rattle.number.specs.Integers.{clamp}
use Rattle.reduction.specs.Reduction.{shifted_by}
use mir.Syntax.{w64}
use Rattle.reduction.proofs.value.Goals as goal

pub returns-in-None : goal.returns-in-None
returns-in-None c =
    let a = c.args in
    to_z-of_z {w = w64} (sfits_of c.moved-v.type_inv)
    ∙ value-left a.how a.old c.moved-v.result (c.moved-v.ensures ∙ ap (shifted_by a.how) (to_z-of_z c.ranges.old)) c.in-None.is

pub returns-in-Some : goal.returns-in-Some
returns-in-Some c =
    let a = c.args in
    let to = c.in-Some.to in
    to_z-of_z {w = w64} (sfits_of c.clamped.type_inv)
    ∙ c.clamped.ensures
    ∙ (λ i. clamp ((to_z-of_z {w = w64} (sfits_of c.low.type_inv) ∙ c.low.ensures) i)
    ((to_z-of_z {w = w64} (sfits_of c.high.type_inv) ∙ c.high.ensures) i)
    (to_z-of_z {w = w64} {z = c.moved-v.result} (sfits_of c.moved-v.type_inv) i))
    ∙ value-clamped a.how a.old c.moved-v.result (c.moved-v.ensures ∙ ap (shifted_by a.how) (to_z-of_z c.ranges.old)) to c.in-Some.is
