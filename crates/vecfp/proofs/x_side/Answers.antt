use Rattle.std.proofs.Common.{◌+◌, ◌*◌, ◌∙◌, false, cond, Some, None, arith}
use Rattle.isa.specs.Vecfp as Vecfp
use Rattle.operand.proofs.Fields.{bits-lt}
use Rattle.vecfp.proofs.x_side.Goals as goal

pub offset-requires : goal.offset-requires
offset-requires c = (omega (arith, c.field.ensures, bits-lt c.args.op 10 18), c.requires)

pub returns : goal.returns
unfolding Vecfp.x_offset
returns c =
    let at = c.offset.ensures ∙ (λ i. c.field.ensures i + cond (c.broadcasts-same.ensures i) 0 (64 * c.args.v)) in
    let from = c.from_unless.ensures ∙ (λ i. cond (c.vecfp_overrides-zero.ensures i) None (Some (at i))) in
    λ i. record { y = false; from = from i; lane = c.x_lane.ensures i }
