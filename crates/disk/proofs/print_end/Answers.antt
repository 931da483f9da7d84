use native.Mathlib.Omega.{arith}
use Rattle.disk.proofs.Writing.{registers_part, end-held, end-says, end-most, end-ended}
use Rattle.disk.proofs.print_end.Goals as goal

pub slice_bounds-write_text-end : goal.slice_bounds-write_text-end
slice_bounds-write_text-end c =
    let a = c.args in
    let same = registers_part a.head.now c.steps_base-base.result c.steps_base-base.ensures.0 c.requires.1 in
    (end-held a.head.now a.n a.state.now a.at c.requires.0 (omega arith) _ same a.behind.now a.out.now
    c.print_end-size.new.out c.print_end-size.result c.requires.3 c.print_end-size.ensures).1.0

pub slice_bounds-write_text-end-2 : goal.slice_bounds-write_text-end-2
slice_bounds-write_text-end-2 c =
    let a = c.args in
    let same = registers_part a.head.now c.steps_base-base.result c.steps_base-base.ensures.0 c.requires.1 in
    (end-held a.head.now a.n a.state.now a.at c.requires.0 (omega arith) _ same a.behind.now a.out.now
    c.print_end-size.new.out c.print_end-size.result c.requires.3 c.print_end-size.ensures).1.1

pub write_text-requires : goal.write_text-requires
write_text-requires c =
    let a = c.args in
    let same = registers_part a.head.now c.steps_base-base.result c.steps_base-base.ensures.0 c.requires.1 in
    end-says a.head.now a.n a.state.now a.at c.requires.0 (omega arith) _ same a.behind.now a.out.now
    c.print_end-size.new.out c.print_end-size.result c.requires.3 c.print_end-size.ensures

pub overflow_add-result : goal.overflow_add-result
overflow_add-result c =
    let a = c.args in
    let same = registers_part a.head.now c.steps_base-base.result c.steps_base-base.ensures.0 c.requires.1 in
    let most = end-most a.head.now a.n a.state.now a.at c.requires.0 (omega arith) _ same a.behind.now a.out.now
    c.print_end-size.new.out c.print_end-size.result c.requires.3 c.print_end-size.ensures in
    omega (arith, most, c.requires.2)

pub returns : goal.returns
returns c =
    let a = c.args in
    let same = registers_part a.head.now c.steps_base-base.result c.steps_base-base.ensures.0 c.requires.1 in
    end-ended a.head.now a.n a.state.now a.at c.requires.0 (omega arith) _ same a.behind.now a.out.now
    c.print_end-size.new.out c.print_end-size.result c.requires.3 c.print_end-size.ensures
