use Rattle.text.specs.Lines.{z_line}
use Rattle.trace.specs.Trace.{row_line}
use Rattle.trace.proofs.Rows.{line-none, line-there, line-fits, row_kept, row-printed}
use Rattle.trace.proofs.print_row.Goals as goal

pub returns-then-eq : goal.returns-then-eq
returns-then-eq c =
    let a = c.args in
    let whole =
    row_kept a.out.now a.at (row_line a.start.now a.state.now a.row)
    (line-none a.start.now a.state.now c.row_at-before.result c.row_at-after.result a.row c.requires.0 c.row_at-before.ensures
    c.row_at-after.ensures c.if-eq.ensures)
    in
    record { out_after = whole.0; short = whole.1 }

pub returns : goal.returns
returns c =
    let a = c.args in
    let before = c.row_at-before in
    let after = c.row_at-after in
    let whole =
    row-printed a.out.now c.z_line.new.out a.at c.z_line.result (z_line a.row after.result) (row_line a.start.now a.state.now a.row)
    (line-there a.start.now a.state.now before.result after.result a.row c.requires.0 before.ensures after.ensures c.if-eq.ensures)
    (line-fits a.start.now a.state.now before.result after.result a.row c.requires.0 before.ensures after.ensures)
    c.z_line.ensures
    in
    record { out_after = whole.0; short = whole.1 }
