use lib.ListN.{take}
use Rattle.file.proofs.Heads.{head-base, head-most}
use Rattle.disk.proofs.Files.{alone-closed, closed-told}
use Rattle.disk.proofs.print_closed.Goals as goal

pub print_again-requires : goal.print_again-requires
print_again-requires c =
    let a = c.args in
    let p = c.requires in
    let last = take c.in_ok-k.k c.fill.new.buffer in
    let again = closed-told a.head.now a.n p.0 p.2 p.1 last a.clear p.3 c.close.result c.in-Ok.field-0
    c.close.ensures c.in-Ok.is
    in (again.0, again.1, head-most a.head.now a.n p.0, head-base a.head.now a.n p.0, p.4)

pub print_refused-requires : goal.print_refused-requires
print_refused-requires c =
    let a = c.args in
    let p = c.requires in
    let last = take c.in_ok-k.k c.fill.new.buffer in (
      alone-closed a.head.now a.n p.0 p.2 p.1 last a.clear p.3 c.close.result c.in-Err.refusal c.close.ensures c.in-Err.is,
      p.4,
    )
