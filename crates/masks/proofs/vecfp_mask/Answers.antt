use mathlib.Core.Path.{sym, ◌∙◌}
use Rattle.masks.proofs.Vecint.{several-vecfp, some-vecfp, all-vecfp}
use Rattle.masks.proofs.vecfp_mask.Goals as goal

pub returns-then-several : goal.returns-then-several
returns-then-several c =
    let a = c.args in
    several-vecfp a.generation a.op (sym c.if-several.ensures)

pub returns-then-enables_all : goal.returns-then-enables_all
returns-then-enables_all c =
    let a = c.args in
    all-vecfp a.generation a.op (sym c.if-several.ensures) _ _ c.field-enable.ensures
    c.vecfp_value-n.ensures.0 (sym c.if-enables_all.ensures)

pub returns : goal.returns
returns c =
    let a = c.args in
    c.vecint_enables.ensures
    ∙ some-vecfp a.generation a.op (sym c.if-several.ensures) _ _ c.field-enable.ensures
    c.vecfp_value-n.ensures.0 _ c.vecfp_lanes.ensures.0
