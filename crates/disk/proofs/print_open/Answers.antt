use native.Mathlib.Omega.{arith}
use borrow.Author.Rules.{rules}
use Rattle.disk.proofs.Files.{alone-head, opened_most}
use Rattle.disk.proofs.print_open.Goals as goal

pub overflow_cast-n : goal.overflow_cast-n
overflow_cast-n c = omega (arith, opened_most c.args.head.now c.open.result c.in-Ok.n c.open.ensures c.in-Ok.is)

pub overflow_cast-n-in-Ok : goal.overflow_cast-n-in-Ok
overflow_cast-n-in-Ok c = omega (arith, opened_most c.args.head.now c.open.result c.in-Ok.n c.open.ensures c.in-Ok.is)

pub print_refused-requires : goal.print_refused-requires
print_refused-requires c =
    (alone-head c.args.head.now c.open.result c.in-Err.refusal c.open.ensures c.in-Err.is, search rules)
