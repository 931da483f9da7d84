use Rattle.disk.proofs.Files.{alone-cut}
use Rattle.disk.proofs.Looked.{seen-none}
use Rattle.disk.proofs.print_checked.Goals as goal

pub print_refused-requires : goal.print_refused-requires
print_refused-requires c =
    let a = c.args in
    let p = c.requires in
    (alone-cut a.head.now a.n p.0 p.2 p.1 (seen-none c.in_ok-clear.field-0 a.n c.in-None.is c.in_ok-clear.ensures), p.3)
