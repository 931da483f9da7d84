use mathlib.Core.Bool.{true, false}
use lib.Ieee.{binary64}
use Rattle.float.proofs.Ops.{selected-is}
use Rattle.float.proofs.U64Pattern.select.Goals as goal

pub returns-then-value64 : goal.returns-then-value64
returns-then-value64 c =
    let a = c.args in
    selected-is binary64 a.self a.other c.value64.result true c.value64.ensures c.if-value64.true

pub returns-else-value64 : goal.returns-else-value64
returns-else-value64 c =
    let a = c.args in
    selected-is binary64 a.self a.other c.value64.result false c.value64.ensures c.if-value64.false
