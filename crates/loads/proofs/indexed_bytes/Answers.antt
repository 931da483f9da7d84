use native.Mathlib.Omega.{arith}
use Rattle.operand.proofs.Fields.{bits-lt}
use Rattle.loads.proofs.Bytes.{when-indexed}
use Rattle.loads.proofs.indexed_bytes.Goals as goal

pub overflow_mul-place : goal.overflow_mul-place
overflow_mul-place c =
    let op = c.args.op in omega (arith, c.field-place.ensures, bits-lt op 49 51)

pub returns : goal.returns
returns c =
    let a = c.args in (
      when-indexed a.y a.generation a.op a.state.now a.v c.wide_lanes-wide.ensures
          c.flag-four.ensures c.advance_by.ensures.0 c.offset-from.ensures c.load-packed.ensures
          c.field-place.ensures c.load-register.ensures c.indexed-bytes.ensures,
      c.wide_lanes-wide.ensures,
    )
