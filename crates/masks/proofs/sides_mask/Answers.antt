use mathlib.Core.Path.{◌∙◌}
use Rattle.masks.proofs.Vecint.{one-mask, two-masks}
use Rattle.masks.proofs.sides_mask.Goals as goal

pub returns-then-x-y : goal.returns-then-x-y
returns-then-x-y c =
    c.mask_at-by_x.ensures
    ∙ one-mask c.args.op c.x_width-x.result c.y_width-y.result c.x_width-x.ensures.0 c.y_width-y.ensures.0 c.if-x-y.true

pub returns : goal.returns
returns c =
    two-masks c.args.op c.x_width-x.result c.y_width-y.result c.x_width-x.ensures.0 c.y_width-y.ensures.0
    c.mask_at-by_x.result c.mask_at.result c.mask_at-by_x.ensures c.mask_at.ensures
