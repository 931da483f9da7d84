use mathlib.Core.Path.{sym, ◌∙◌}
use Rattle.operand.proofs.Lanes.{lanes-by, lanes-reducing}
use Rattle.operand.proofs.Widths.{z_width_cases, narrower-cases, lanes-dealt, one-two_or_four}
use Rattle.operand.proofs.vector_lanes.Goals as goal

pub returns-then-reduces : goal.returns-then-reduces
returns-then-reduces c =
    let op = c.args.op in (
      c.lanes_of.ensures.0 ∙ lanes-by c.z_width.result _ (z_width_cases op) c.z_width.ensures.0
          ∙ lanes-reducing op (sym c.if-reduces.ensures),
      c.lanes_of.ensures.1,
    )

pub returns : goal.returns
returns c =
    let op = c.args.op in (
      c.lanes_of-2.ensures.0
          ∙ lanes-by c.narrower.result _ (one-two_or_four (narrower-cases op)) c.narrower.ensures
          ∙ sym (lanes-dealt op (sym c.if-reduces.ensures)),
      c.lanes_of-2.ensures.1,
    )
