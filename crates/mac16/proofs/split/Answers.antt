use Rattle.std.proofs.Common.{rules, ◌+◌, ◌*◌, ◌/◌, ◌%◌, get_or}
use Rattle.number.proofs.Made.{from_fn-table}
use Rattle.mac16.specs.Products.{split}
use Rattle.mac16.proofs.split.Goals as goal

pub returns : goal.returns
unfolding split
returns g c d = from_fn-table (λ k. get_or c.args.xs.now (2 * (k % 16) + k / 16) d) (λ i y q h k. search rules) c.from_fn.ensures.items
