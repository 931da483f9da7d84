use mathlib.Core.Path.{sym}
use Rattle.operand.proofs.Widths.{z-digit, reduced-z-digit}
use Rattle.operand.proofs.z_width.Goals as goal

pub returns-then-reduces : goal.returns-then-reduces
returns-then-reduces c = reduced-z-digit c.args.op c.packed_reduction.result c.packed_reduction.ensures (sym c.if-reduces.ensures)

pub returns : goal.returns
returns c = z-digit c.args.op c.packed_widths.result c.packed_widths.ensures (sym c.if-reduces.ensures)
