use Prim.Native.Nat.{◌*◌, ◌≤◌}
use native.Mathlib.Nat.{mul-le-mul}
use native.Mathlib.Omega.{arith}
use Rattle.vecfp.proofs.Counts.{counted}
use Rattle.vecfp.proofs.bytes_enabled.Goals as goal

pub overflow_mul-result : goal.overflow_mul-result
overflow_mul-result c =
    let vectors = c.vectors in
    let one = c.vector_bytes in
    let few : vectors.result * one.result ≤ 4 * 512 = mul-le-mul vectors.ensures.1 one.ensures.1 in
    record { fits = omega (arith, few) }

pub returns : goal.returns
returns c =
    let vectors = c.vectors in
    let a = c.args in
    let one = c.vector_bytes in
    counted a.op a.generation vectors.result one.result a.mask vectors.ensures.0 c.requires one.ensures.0
