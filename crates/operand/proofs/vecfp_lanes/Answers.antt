use native.Mathlib.Omega.{arith}
use Rattle.isa.specs.State.{lanes_of}
use Rattle.isa.specs.Vecfp.{width}
use Rattle.operand.proofs.Formats.{of-single, of-double}
use Rattle.operand.proofs.vecfp_lanes.Goals as goal

pub returns-then-single : goal.returns-then-single
returns-then-single c = (of-single c.args.op c.single.ensures (λ f. lanes_of (width f)) c.if-single.true, omega arith)

pub returns-else-single : goal.returns-else-single
returns-else-single c = (of-double c.args.op c.single.ensures (λ f. lanes_of (width f)) c.if-single.false, omega arith)
