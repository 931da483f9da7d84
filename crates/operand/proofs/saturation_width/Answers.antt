use Rattle.operand.proofs.Widths.{saturation-digit}
use Rattle.operand.proofs.saturation_width.Goals as goal

pub returns : goal.returns
returns c = saturation-digit c.args.op c.packed_reduction.result c.packed_reduction.ensures
