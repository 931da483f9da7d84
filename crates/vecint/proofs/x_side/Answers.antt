use Rattle.std.proofs.Common.{eqb}
use Rattle.vecint.proofs.x_side.Goals as goal

pub returns : goal.returns
returns c =
    λ i. record {
      wide = eqb (c.x_width.ensures.0 i) 2;
      sign = c.flag.ensures i;
      fixed = c.fixed_x.ensures i;
      halved = eqb (c.y_width.ensures.0 i) 1;
    }
