use Rattle.std.proofs.Common.{rules, pos, false, cond, get_or}
use Rattle.number.proofs.Made.{from_fn-table}
use Rattle.mac16.specs.Products.{masked}
use Rattle.mac16.proofs.masked_by.Goals as goal

pub returns : goal.returns
unfolding masked
returns c =
    let a = c.args in
    from_fn-table (λ k. cond (get_or a.on.now k false) (get_or a.xs.now k (pos 0)) (pos 0)) (λ i y q h k. search rules) c.from_fn.ensures.items
