use Prim.Native.Nat.{◌*◌, ◌≤◌}
use native.Mathlib.Nat.{mul-le-mul}
use native.Mathlib.Omega.{arith}
use Rattle.vecfp.proofs.Counts.{vector-counted}
use Rattle.vecfp.proofs.vector_bytes.Goals as goal

pub overflow_mul-result : goal.overflow_mul-result
overflow_mul-result c =
    let n = c.count_first in
    let b = c.vecfp_width in
    let few : n.result * b.result ≤ 64 * 8 = mul-le-mul n.ensures.1 b.ensures.1 in
    record { fits = omega (arith, few) }

pub returns : goal.returns
returns c =
    let n = c.count_first in
    let b = c.vecfp_width in
    let a = c.args in (
      vector-counted a.op a.mask c.vecfp_lanes.result n.result b.result c.vecfp_lanes.ensures.0 n.ensures.0 b.ensures.0,
      mul-le-mul n.ensures.1 b.ensures.1,
    )
