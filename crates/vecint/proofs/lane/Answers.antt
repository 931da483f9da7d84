use Rattle.std.proofs.Common.{ℤ, ap, ◌∙◌, to_z-of_z}
use Rattle.number.specs.Bytes.{span}
use Rattle.number.specs.Integers.{signed, wrap}
use Rattle.vecint.specs.Accumulation.{accumulated}
use Rattle.vecint.proofs.Lanes.{stored_is}
use Rattle.vecint.proofs.lane.Goals as goal

pub returns : goal.returns
returns g c =
    let a = c.args in
    let b = g.T.Lane.BYTES in
    let z = c.load-z.result in
    c.store.ensures ∙ stored_is g.T.Lane.bits g.T.Accumulated.wide b g.met.T.Accumulated.width a.how a.state.now a.at a.t a.on
    z c.accumulated.result c.chosen.result c.load-z.ensures
    (c.accumulated.ensures ∙ ap (λ (t : ℤ). wrap (span b) (accumulated g.T.Accumulated.wide a.how (signed b (g.T.Lane.bits z)) t)) (to_z-of_z c.ranges.t))
    c.chosen.ensures
