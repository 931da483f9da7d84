use Rattle.std.proofs.Common.{rules, map}
use Rattle.number.proofs.Made.{from_fn-map}
use Rattle.lanes.specs.Lanes.{each}
use Rattle.lanes.proofs.each.Goals as goal

pub returns : goal.returns
returns g c =
    let p = g.T.Lane.bits in
    from_fn-map p (each (g.O.Operation.meaning g.T.Pattern.format) (map p c.args.a.now) (map p c.args.b.now)) _ (λ i y q h k. search rules)
    c.from_fn.ensures.items
