use Rattle.operand.proofs.Widths.{x-digit}
use Rattle.operand.proofs.x_width.Goals as goal

pub returns : goal.returns
returns c = x-digit c.args.op c.packed_widths.result c.packed_widths.ensures
