use mathlib.Core.Path.{refl}
use Prim.Native.Nat.{◌*◌, ◌-◌, ◌%◌, ◌≤◌}
use Rattle.state.specs.Rows.{run_sum}
use Rattle.state.proofs.Holds.{Holds, Bytes}
use Rattle.state.proofs.RunLoop.{Upto}
use Rattle.mac16.specs.Products.{masked, row_terms}
use Rattle.mac16.proofs.pair32.Given as goal

abbrev pub invariant-loop-i : goal.invariant-loop-i
invariant-loop-i l =
    (l.i ≤ 32) × Holds 4 16 refl l.initial.state l.state (Upto (run_sum 4 (l.j * 2) 2 (row_terms 4 32 (l.sum.shift % 32) (masked l.x.on l.x.lanes) l.ys) l.x.on
    l.sum.keep) 16 refl (l.j * 2) 2 l.initial.state l.i) × Bytes l.state

abbrev pub decreases-loop-i : goal.decreases-loop-i
decreases-loop-i l = 32 - l.i
