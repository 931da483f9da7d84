use native.Mathlib.Omega.{arith}
use Rattle.operand.proofs.Rows.{stride-to}
use Rattle.operand.proofs.stride.Goals as goal

pub returns : goal.returns
returns c =
    let a = c.args in
    (omega (arith, c.stride_power.ensures.0, stride-to a.generation a.op), omega (arith, c.stride_power.ensures.0, stride-to a.generation a.op))
