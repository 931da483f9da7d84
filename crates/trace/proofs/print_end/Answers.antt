use Rattle.trace.proofs.Room.{ends-behind, ends-here}
use Rattle.trace.proofs.print_end.Goals as goal

pub returns-then-behind-gt0 : goal.returns-then-behind-gt0
returns-then-behind-gt0 c =
    let a = c.args in
    ends-behind a.registers.now a.n a.state.now a.behind.now a.out.now c.if-behind-gt0.true
    c.print_refused.new.out c.print_refused.result c.print_refused.ensures

pub returns : goal.returns
returns c =
    let a = c.args in
    ends-here a.registers.now a.n a.state.now a.behind.now a.out.now c.if-behind-gt0.false
    c.print_rows-at.new.out c.steps_line.new.out c.print_rows-at.result c.steps_line.result
    c.print_rows-at.ensures.out_after c.steps_line.ensures
