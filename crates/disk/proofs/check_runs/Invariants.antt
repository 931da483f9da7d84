use Prim.Native.Nat.{◌-◌, ◌≤◌}
use Rattle.disk.specs.Got.{Looked}
use Rattle.disk.proofs.check_runs.Given as goal

abbrev pub invariant-loop-i : goal.invariant-loop-i
invariant-loop-i l = (l.i ≤ l.n) × Looked l.i l.clear

abbrev pub decreases-loop-i : goal.decreases-loop-i
decreases-loop-i l = l.n - l.i
