use Rattle.std.proofs.Common.{◌+◌, ◌*◌, ◌∙◌, true, cond, Some, None, arith}
use Rattle.isa.specs.Vecfp as Vecfp
use Rattle.operand.proofs.Fields.{bits-lt}
use Rattle.vecfp.proofs.y_side.Goals as goal

pub offset-requires : goal.offset-requires
offset-requires c = (omega (arith, c.field.ensures, bits-lt c.args.op 0 8), c.requires)

pub returns : goal.returns
unfolding Vecfp.y_offset
returns c =
    let at = c.offset.ensures ∙ (λ i. c.field.ensures i + cond (c.broadcasts-same.ensures i) 0 (64 * c.args.v)) in
    let from = c.from_unless.ensures ∙ (λ i. cond (c.vecfp_overrides-zero.ensures i) None (Some (at i))) in
    λ i. record { y = true; from = from i; lane = c.y_lane.ensures i }
