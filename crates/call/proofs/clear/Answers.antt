use native.Mathlib.Omega.{arith}
use Rattle.call.proofs.Clears.{clear-past, clear-fits, clear-some}
use Rattle.call.proofs.clear.Goals as goal

pub returns-then-first-gt63 : goal.returns-then-first-gt63
returns-then-first-gt63 c = clear-past c.args.op c.args.first c.args.last (omega arith) c.if-first-gt63.true

pub overflow_sub-result : goal.overflow_sub-result
overflow_sub-result c = clear-fits c.args.op c.args.first c.args.last (omega arith) c.field.ensures

pub returns : goal.returns
returns c = clear-some c.args.op c.args.first c.args.last (omega arith) c.field.ensures
