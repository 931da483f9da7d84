use Rattle.std.proofs.Common.{rules, ◌%◌, pos, get_or}
use Rattle.number.proofs.Made.{from_fn-table}
use Rattle.mac16.specs.Products.{term, row_terms}
use Rattle.mac16.proofs.terms16.Goals as goal

pub returns : goal.returns
unfolding row_terms
returns c =
    let a = c.args in
    from_fn-table (λ k. term 2 (a.s % 32) (get_or a.xs.now k (pos 0)) (get_or a.ys.now k (pos 0))) (λ i y q h k. search rules) c.from_fn.ensures.items
