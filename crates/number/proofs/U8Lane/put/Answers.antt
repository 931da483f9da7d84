use Rattle.number.proofs.Slice.{sets-past, stores_1}
use Rattle.number.specs.Bytes.{bytes_of}
use Rattle.std.proofs.Common.{sym, arith}
use Rattle.number.proofs.U8Lane.put.Goals as goal

pub returns-then-at-s : goal.returns-then-at-s
returns-then-at-s c = stores_1 c.args.s.now c.args.at c.args.self (omega arith)

pub returns-else-at-s : goal.returns-else-at-s
returns-else-at-s c = sym (sets-past c.args.s.now c.args.at (bytes_of 1 c.args.self) c.if-at-s.false)
