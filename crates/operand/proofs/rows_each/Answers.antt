use mathlib.Core.Path.{sym}
use native.Mathlib.Omega.{arith}
use Rattle.operand.proofs.Widths.{rows-reducing, rows-at-two, rows-at-one}
use Rattle.operand.proofs.rows_each.Goals as goal

pub returns-then-reduces : goal.returns-then-reduces
returns-then-reduces c = (sym (rows-reducing c.args.op (sym c.if-reduces.ensures)), omega arith)

pub returns-then-narrower-eq2 : goal.returns-then-narrower-eq2
returns-then-narrower-eq2 c =
    rows-at-two c.args.op c.z_width-z.result c.narrower.result (sym c.if-reduces.ensures) c.z_width-z.ensures.0 c.narrower.ensures
    c.if-narrower-eq2.true

pub returns-else-narrower-eq2 : goal.returns-else-narrower-eq2
returns-else-narrower-eq2 c =
    rows-at-one c.args.op c.z_width-z.result c.narrower.result (sym c.if-reduces.ensures) c.z_width-z.ensures.0 c.narrower.ensures
    c.if-narrower-eq2.false
