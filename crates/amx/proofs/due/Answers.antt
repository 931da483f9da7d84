use Rattle.amx.proofs.Table.{due-is}
use Rattle.amx.proofs.due.Goals as goal

pub returns : goal.returns
returns c =
    let a = c.args in
    due-is a.state.now c.get.result c.get.ensures c.get.type_inv
