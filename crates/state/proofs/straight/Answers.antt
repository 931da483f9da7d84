use Rattle.std.proofs.Common.{rules, ◌+◌}
use Rattle.number.specs.Bytes.{byte_at}
use Rattle.number.proofs.Made.{from_fn-table}
use Rattle.state.proofs.straight.Goals as goal

pub returns : goal.returns
returns c = from_fn-table (λ i. byte_at c.args.state.now (c.args.at + i)) (λ i y q h k. search rules) c.from_fn.ensures.items
