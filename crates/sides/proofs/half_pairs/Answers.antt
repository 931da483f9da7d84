use Rattle.std.proofs.Common.{rules}
use Rattle.number.proofs.Made.{from_fn-table}
use Rattle.sides.specs.Sides.{pair_of}
use Rattle.sides.proofs.half_pairs.Goals as goal

pub returns : goal.returns
unfolding pair_of
returns c = from_fn-table (pair_of c.args.bytes.now) (λ i y q h k. search rules) c.from_fn.ensures.items
