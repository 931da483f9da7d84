use lib.Ieee.{binary32}
use Rattle.float.proofs.Ops.{multiplied-is}
use Rattle.float.proofs.U32Pattern.mul.Goals as goal

pub returns : goal.returns
returns c =
    let a = c.args in
    multiplied-is binary32 a.self a.other c.value32.ensures c.value32-2.ensures c.pattern32.ensures
