use Rattle.operand.proofs.Widths.{y-digit}
use Rattle.operand.proofs.y_width.Goals as goal

pub returns : goal.returns
returns c = y-digit c.args.op c.packed_widths.result c.packed_widths.ensures
