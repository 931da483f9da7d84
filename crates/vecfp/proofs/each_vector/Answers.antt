use Rattle.std.proofs.Common.{refl, arith}
use Rattle.number.specs.Bytes.{table}
use Rattle.isa.specs.Vecfp as Vecfp
use Rattle.masks.proofs.Bools.{lanes-of_rule}
use Rattle.operand.proofs.Formats.{format-single, format-double}
use Rattle.vecfp.proofs.each_vector.Goals as goal

pub all_vectors-requires : goal.all_vectors-requires
unfolding table
all_vectors-requires c =
    let a = c.args in (
      omega arith,
      (
        omega arith,
        (
          (refl, refl),
          refl,
          format-single a.op c.single.ensures c.if-single.true,
          lanes-of_rule (Vecfp.enabled a.generation a.op) 64 16 a.mask _ (omega arith) c.requires c.lanes.ensures,
        ),
      ),
    )

pub all_vectors-requires-2 : goal.all_vectors-requires-2
unfolding table
all_vectors-requires-2 c =
    let a = c.args in (
      omega arith,
      (
        omega arith,
        (
          (refl, refl),
          refl,
          format-double a.op c.single.ensures c.if-single.false,
          lanes-of_rule (Vecfp.enabled a.generation a.op) 64 8 a.mask _ (omega arith) c.requires c.lanes-2.ensures,
        ),
      ),
    )
