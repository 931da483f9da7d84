use mathlib.Core.Path.{sym, ap, ◌∙◌}
use mir.Facts.{to_z-of_z}
use lib.ListN.{replicate}
use mathlib.Core.Bool.{true, false}
use Rattle.masks.proofs.Bools.{same-all}
use Rattle.mac16.proofs.Sides.{side-skipped, side-lanes}
use Rattle.mac16.proofs.side_of.Goals as goal

pub returns-then-skip : goal.returns-then-skip
returns-then-skip c =
    let a = c.args in
    ap (replicate 32) (to_z-of_z c.ranges.other) ∙ same-all 32 a.other ∙ side-skipped a.byte a.skip a.other a.bytes.now c.if-skip.true

pub returns-then-byte : goal.returns-then-byte
returns-then-byte c = c.lanes8.ensures ∙ side-lanes c.args.byte c.args.skip c.args.other c.args.bytes.now true c.if-skip.false (sym c.if-byte.true)

pub returns-else-byte : goal.returns-else-byte
returns-else-byte c = c.lanes16.ensures ∙ side-lanes c.args.byte c.args.skip c.args.other c.args.bytes.now false c.if-skip.false (sym c.if-byte.false)
