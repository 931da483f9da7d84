use Rattle.std.proofs.Common.{◌*◌, ◌≤◌, mul-le-mul, arith}
use Rattle.vecint.proofs.Counts.{all-bytes, some_bytes}
use Rattle.vecint.proofs.vector_bytes.Goals as goal

pub returns-then-mask-eq-ALL : goal.returns-then-mask-eq-ALL
returns-then-mask-eq-ALL c =
    let a = c.args in
    let rows = c.rows_each in
    (all-bytes a.op a.mask rows.result c.if-mask-eq-ALL.true rows.ensures.0, omega (arith, rows.ensures.1))

pub overflow_mul-result-2 : goal.overflow_mul-result-2
overflow_mul-result-2 c =
    let n = c.count_first in
    let width = c.z_width in
    let few : n.result * width.result ≤ 64 * 4 = mul-le-mul n.ensures.1 width.ensures.1 in
    record { fits = omega (arith, few, n.ensures.1) }

pub returns : goal.returns
returns c =
    let n = c.count_first in
    let lanes = c.vector_lanes in
    let a = c.args in
    let width = c.z_width in (
      some_bytes a.op a.mask lanes.result n.result width.result lanes.ensures.0 n.ensures.0 width.ensures.0,
      mul-le-mul n.ensures.1 width.ensures.1,
    )
