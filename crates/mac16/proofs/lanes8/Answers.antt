use Rattle.std.proofs.Common.{rules, true}
use Rattle.number.specs.Bytes.{byte_at}
use Rattle.number.proofs.Made.{from_fn-table}
use Rattle.isa.specs.Mac16 as Mac16
use Rattle.mac16.proofs.lanes8.Goals as goal

pub returns : goal.returns
returns c = from_fn-table (Mac16.lane true (byte_at c.args.bytes.now)) (λ i y q h k. search rules) c.from_fn.ensures.items
