use mathlib.Core.Path.{ap₂}
use Prim.Native.Nat.{◌%◌, ◌<◌}
use native.Mathlib.Nat.{mod-lt}
use native.Mathlib.Omega.{arith}
use Rattle.operand.proofs.Rows.{stride-from}
use Rattle.operand.proofs.row_given.Goals as goal

pub nonzero_rem-result : goal.nonzero_rem-result
nonzero_rem-result c = omega (arith, c.stride.ensures.0, stride-from c.args.generation c.args.op)

pub returns : goal.returns
returns c =
    let from = stride-from c.args.generation c.args.op in
    let below : c.field.result % c.stride.result < c.stride.result = mod-lt c.field.result (omega (arith, c.stride.ensures.0, from)) in
    (ap₂ ◌%◌ c.field.ensures c.stride.ensures.0, omega (arith, below, c.stride.ensures.1))
