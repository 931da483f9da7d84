use mathlib.Core.Bool.{true, false}
use lib.Ieee.{binary32}
use Rattle.float.proofs.Ops.{selected-is}
use Rattle.float.proofs.U32Pattern.select.Goals as goal

pub returns-then-value32 : goal.returns-then-value32
returns-then-value32 c =
    let a = c.args in
    selected-is binary32 a.self a.other c.value32.result true c.value32.ensures c.if-value32.true

pub returns-else-value32 : goal.returns-else-value32
returns-else-value32 c =
    let a = c.args in
    selected-is binary32 a.self a.other c.value32.result false c.value32.ensures c.if-value32.false
