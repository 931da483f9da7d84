use mathlib.Core.Path.{refl, ap, ◌∙◌}
use native.Mathlib.Omega.{arith}
use lib.ListN.{length}
use lib.Seq.{length-sets}
use Rattle.trace.specs.Trace.{row_lines, z_lines}
use Rattle.trace.proofs.Rows.{rows_more, rows_all}
use Rattle.trace.proofs.Room.{stored_front}
use Rattle.trace.proofs.print_rows.Goals as goal

pub loop-row-init : goal.loop-row-init
loop-row-init c = (omega arith, omega arith, (refl, refl))

pub loop-row-preserved : goal.loop-row-preserved
loop-row-preserved c =
    let a = c.args in (
      omega arith,
      omega (arith, c.print_row-at.ensures.short, c.loop-row.invariant.1),
      rows_more a.start.now a.state.now a.out.now c.loop-row.out c.print_row-at.new.out c.loop-row.row
          c.loop-row.at c.print_row-at.result c.loop-row.invariant.2 c.print_row-at.ensures.out_after,
    )

pub shape_of-out : goal.shape_of-out
shape_of-out c =
    let a = c.args in
    ap length c.loop-row.invariant.2.0 ∙ length-sets a.out.now 0 (row_lines a.start.now a.state.now c.loop-row.row)

pub returns : goal.returns
returns c =
    let a = c.args in record {
      out_after = stored_front a.out.now c.loop-row.out (z_lines a.start.now a.state.now) c.loop-row.at
          (rows_all a.start.now a.state.now a.out.now c.loop-row.out c.loop-row.row c.loop-row.at c.loop-row.invariant.0
          c.loop-row-test.false c.loop-row.invariant.2);
      short = omega (arith, c.loop-row.invariant.0, c.loop-row.invariant.1);
    }
