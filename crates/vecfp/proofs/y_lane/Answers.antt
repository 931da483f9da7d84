use mathlib.Core.Path.{sym, ◌∙◌}
use Rattle.number.proofs.Tests.{pick_true}
use Rattle.vecfp.proofs.Sides.{y-several, y-fixed, y-own}
use Rattle.vecfp.proofs.y_lane.Goals as goal

pub returns-then-broadcasts : goal.returns-then-broadcasts
returns-then-broadcasts c = sym (pick_true _ _ (sym c.broadcasts.ensures ∙ c.if-broadcasts.true))

pub returns-then-several : goal.returns-then-several
returns-then-several c =
    let a = c.args in
    y-several a.generation a.op (sym c.broadcasts.ensures ∙ c.if-broadcasts.false) (sym c.several.ensures ∙ c.if-several.true)

pub returns-then-field-eq1 : goal.returns-then-field-eq1
returns-then-field-eq1 c =
    let a = c.args in
    y-fixed a.generation a.op (sym c.broadcasts.ensures ∙ c.if-broadcasts.false) (sym c.several.ensures ∙ c.if-several.false)
    _ c.field.ensures c.if-field-eq1.true _ c.vecfp_value.ensures.0

pub returns : goal.returns
returns c =
    let a = c.args in
    y-own a.generation a.op (sym c.broadcasts.ensures ∙ c.if-broadcasts.false) (sym c.several.ensures ∙ c.if-several.false)
    _ c.field.ensures c.if-field-eq1.false
