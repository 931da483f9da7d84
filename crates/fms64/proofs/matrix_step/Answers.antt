use Rattle.fms64.proofs.Whole.{matrix-count}
use Prim.Native.Nat.{◌*◌, ◌≤◌}
use native.Mathlib.Nat.{mul-le-mul}
use native.Mathlib.Omega.{arith}
use Rattle.fms64.proofs.matrix_step.Goals as goal

pub overflow_mul-result : goal.overflow_mul-result
overflow_mul-result c =
    let x = c.count_first in
    let y = c.count_first-2 in
    let few : x.result * y.result ≤ 64 * 64 = mul-le-mul x.ensures.1 y.ensures.1 in
    record { fits = omega (arith, few) }

pub overflow_mul-result-2 : goal.overflow_mul-result-2
overflow_mul-result-2 c =
    let x = c.count_first in
    let y = c.count_first-2 in
    let few : x.result * y.result ≤ 64 * 64 = mul-le-mul x.ensures.1 y.ensures.1 in
    record { fits = omega (arith, few) }

pub returns : goal.returns
returns c =
    let a = c.args in (
      c.matrix_rows.ensures,
      matrix-count a.op c.x_mask-x.result c.count_first.result c.x_mask-x.ensures c.count_first.ensures.0 c.requires
          c.y_mask-y.result c.count_first-2.result c.y_mask-y.ensures c.count_first-2.ensures.0,
    )
