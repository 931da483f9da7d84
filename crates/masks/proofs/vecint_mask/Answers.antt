use mathlib.Core.Path.{sym, ◌∙◌}
use Rattle.masks.proofs.Vecint.{several-mask, all-mask, reducing-mask, two-sided-mask}
use Rattle.masks.proofs.vecint_mask.Goals as goal

pub returns-then-several : goal.returns-then-several
returns-then-several c =
    let a = c.args in
    several-mask a.generation a.op (sym c.if-several.ensures)

pub returns-then-enables_all : goal.returns-then-enables_all
returns-then-enables_all c =
    let a = c.args in
    all-mask a.generation a.op (sym c.if-several.ensures) c.field.result c.field-2.result
    c.field.ensures c.field-2.ensures (sym c.if-enables_all.ensures)

pub returns-then-reduces : goal.returns-then-reduces
returns-then-reduces c =
    let a = c.args in
    c.mask_at.ensures
    ∙ reducing-mask a.generation a.op (sym c.if-several.ensures)
    c.z_width.result c.z_width.ensures.0 (sym c.if-reduces.ensures)

pub returns : goal.returns
returns c =
    let a = c.args in
    c.sides_mask.ensures
    ∙ two-sided-mask a.generation a.op (sym c.if-several.ensures) (sym c.if-reduces.ensures)
