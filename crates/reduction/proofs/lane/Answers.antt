use Rattle.reduction.proofs.Cases.{stored_is}
use mathlib.Core.Path.{◌∙◌}
use Rattle.reduction.proofs.lane.Goals as goal

pub returns : goal.returns
returns g c =
    let a = c.args in
    c.store.ensures ∙ stored_is g.T.Lane.bits g.T.Lane.BYTES a.how a.state.now a.at a.on c.load-z.result c.reduced.result c.chosen.result
    c.load-z.ensures c.reduced.ensures c.chosen.ensures
