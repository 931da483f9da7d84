use Rattle.std.proofs.Common.{◌*◌, ◌≤◌, mul-le-mul, arith}
use Rattle.vecint.proofs.Counts.{counted}
use Rattle.vecint.proofs.bytes_enabled.Goals as goal

pub overflow_mul-result : goal.overflow_mul-result
overflow_mul-result c =
    let vectors = c.vectors in
    let one = c.vector_bytes in
    let few : vectors.result * one.result ≤ 4 * 256 = mul-le-mul vectors.ensures.1 one.ensures.1 in
    record { fits = omega (arith, few) }

pub returns : goal.returns
returns c =
    let vectors = c.vectors in
    let a = c.args in
    let one = c.vector_bytes in
    counted a.generation a.op vectors.result one.result a.mask vectors.ensures.0 c.requires one.ensures.0
