use Rattle.std.proofs.Common.{◌-◌, ◌≤◌, refl}
use Rattle.state.proofs.RunLoop.{Upto}
use Rattle.state.proofs.Holds.{Holds, Bytes}
use Rattle.state.specs.Rows.{run_sum}
use Rattle.state.proofs.sum_row16.Given as goal

abbrev pub invariant-loop-i : goal.invariant-loop-i
invariant-loop-i l =
    (l.i ≤ 32) × Holds 2 32 refl l.initial.state l.state (Upto (run_sum 2 l.row 1 l.values l.on l.keep) 32 refl l.row 1 l.initial.state l.i) × Bytes l.state

abbrev pub decreases-loop-i : goal.decreases-loop-i
decreases-loop-i l = 32 - l.i
