use Rattle.mac16.proofs.Sides.{y-factors-are}
use Rattle.mac16.proofs.y_factors.Goals as goal

pub returns : goal.returns
returns c = y-factors-are c.args.op c.args.state.now c.side_of.result c.load-bytes.result c.field.result c.flag.result c.flag-2.result
    c.side_of.ensures c.load-bytes.ensures c.field.ensures c.flag.ensures c.flag-2.ensures
