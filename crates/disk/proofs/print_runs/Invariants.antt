use Prim.Native.Nat.{◌-◌, ◌*◌, ◌≤◌}
use Rattle.trace.specs.Runs.{room_length}
use Rattle.trace.specs.Reading.{Told}
use Rattle.disk.proofs.print_runs.Given as goal

abbrev pub invariant-loop-i : goal.invariant-loop-i
invariant-loop-i l = (l.i ≤ l.n) × Told l.head l.n l.i l.state l.at × (l.at ≤ room_length * l.i)

abbrev pub decreases-loop-i : goal.decreases-loop-i
decreases-loop-i l = l.n - l.i
