use lib.Ieee.{binary64}
use Rattle.float.proofs.Ops.{added_is}
use Rattle.float.proofs.U64Pattern.add.Goals as goal

pub returns : goal.returns
returns c =
    let a = c.args in
    added_is binary64 a.self a.other c.value64.ensures c.value64-2.ensures c.pattern64.ensures
