use Rattle.reduction.proofs.Cases.{cast_fits, cast_is, high_fits}
use mir.Facts.{to_z-of_z}
use borrow.Author.Rules.{sfits_of}
use mathlib.Core.Path.{sym, ap, ◌∙◌, subst}
use mir.Syntax.{w32, w64}
use mir.Val.{SFits}
use Rattle.number.specs.Integers.{clamp_signed}
use Rattle.reduction.specs.Reduction.{highest, high_end}
use Rattle.reduction.proofs.high32.Goals as goal

pub overflow_cast-result : goal.overflow_cast-result
overflow_cast-result c =
    let a = c.args in
    cast_fits c.clamped.result (subst (SFits w32) (sym (c.clamped.ensures
    ∙ ap (clamp_signed 4) {y = high_end a.to.below a.to.width} (to_z-of_z {w = w64} (sfits_of c.high.type_inv) ∙ c.high.ensures)))
    (high_fits (highest a.to.below a.to.width)))

pub returns : goal.returns
returns c =
    let a = c.args in
    cast_is c.clamped.result (subst (SFits w32) (sym (c.clamped.ensures
    ∙ ap (clamp_signed 4) {y = high_end a.to.below a.to.width} (to_z-of_z {w = w64} (sfits_of c.high.type_inv) ∙ c.high.ensures)))
    (high_fits (highest a.to.below a.to.width))) ∙ (c.clamped.ensures
    ∙ ap (clamp_signed 4) {y = high_end a.to.below a.to.width} (to_z-of_z {w = w64} (sfits_of c.high.type_inv) ∙ c.high.ensures))
