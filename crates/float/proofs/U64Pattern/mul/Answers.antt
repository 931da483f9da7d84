use lib.Ieee.{binary64}
use Rattle.float.proofs.Ops.{multiplied-is}
use Rattle.float.proofs.U64Pattern.mul.Goals as goal

pub returns : goal.returns
returns c =
    let a = c.args in
    multiplied-is binary64 a.self a.other c.value64.ensures c.value64-2.ensures c.pattern64.ensures
