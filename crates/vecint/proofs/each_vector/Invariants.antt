use Rattle.std.proofs.Common.{◌-◌, ◌≤◌}
use Rattle.state.proofs.Holds.{Bytes}
use Rattle.vecint.proofs.VectorsLoop.{VectorsTo}
use Rattle.vecint.proofs.each_vector.Given as goal

abbrev pub invariant-loop-v : goal.invariant-loop-v
invariant-loop-v l = (l.v ≤ l.vectors) × VectorsTo l.generation l.op l.initial.state l.v l.state × Bytes l.state

abbrev pub decreases-loop-v : goal.decreases-loop-v
decreases-loop-v l = l.vectors - l.v
