use Rattle.disk.proofs.Writing.{says_held, refused-held, refused-ended}
use Rattle.disk.proofs.print_refused.Goals as goal

pub slice_bounds-write_text-end : goal.slice_bounds-write_text-end
slice_bounds-write_text-end c =
    let a = c.args in
    (refused-held a.refusal a.out.now c.print_refused-size.new.out c.print_refused-size.result c.requires.1 c.print_refused-size.ensures).1.0

pub slice_bounds-write_text-end-2 : goal.slice_bounds-write_text-end-2
slice_bounds-write_text-end-2 c =
    let a = c.args in
    (refused-held a.refusal a.out.now c.print_refused-size.new.out c.print_refused-size.result c.requires.1 c.print_refused-size.ensures).1.1

pub write_text-requires : goal.write_text-requires
write_text-requires c =
    let a = c.args in
    let stored = refused-held a.refusal a.out.now c.print_refused-size.new.out c.print_refused-size.result c.requires.1
    c.print_refused-size.ensures
    in
    says_held a.head.now c.print_refused-size.new.out _ 0 c.print_refused-size.result stored c.requires.0.0

pub returns : goal.returns
returns c = refused-ended c.args.head.now c.args.refusal c.print_refused-size.result c.print_refused-size.ensures.1 c.requires.0
