use Rattle.loads.proofs.Bytes.{when-plain}
use Rattle.loads.proofs.plain_bytes.Goals as goal

pub returns : goal.returns
returns c =
    let a = c.args in
    when-plain a.y a.generation a.op a.state.now a.v c.offset.ensures c.load.ensures
