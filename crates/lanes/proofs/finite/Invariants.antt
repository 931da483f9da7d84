use Rattle.std.proofs.Common.{◌≤◌, ◌-◌, map}
use Rattle.std.specs.Float.{binary64}
use Rattle.lanes.proofs.Counted.{Counted}
use Rattle.lanes.proofs.finite.Given as goal

abbrev pub invariant-loop-l : goal.invariant-loop-l
invariant-loop-l g l = (l.l ≤ g.row.N) × Counted binary64 (map g.T.Lane.bits l.a) l.l l.found

abbrev pub decreases-loop-l : goal.decreases-loop-l
decreases-loop-l g l = g.row.N - l.l
