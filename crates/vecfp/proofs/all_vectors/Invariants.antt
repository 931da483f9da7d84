use Rattle.std.proofs.Common.{◌-◌}
use Rattle.vecfp.proofs.VectorsLoop.{Done}
use Rattle.vecfp.proofs.all_vectors.Given as goal

abbrev pub invariant-loop-v : goal.invariant-loop-v
invariant-loop-v g l = Done l.generation l.op l.initial.state l.vectors l.v l.state

abbrev pub decreases-loop-v : goal.decreases-loop-v
decreases-loop-v g l = l.vectors - l.v
