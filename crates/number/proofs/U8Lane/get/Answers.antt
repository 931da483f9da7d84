use Rattle.number.proofs.Slice.{number_past, one_byte}
use Rattle.number.specs.Bytes.{byte_at}
use Rattle.std.proofs.Common.{sym}
use Rattle.number.proofs.U8Lane.get.Goals as goal

pub returns-then-s-at : goal.returns-then-s-at
returns-then-s-at c = sym (number_past 1 c.args.s.now c.args.at c.if-s-at.true)

pub returns : goal.returns
returns c = one_byte (byte_at c.args.s.now) c.args.at
