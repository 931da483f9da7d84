use Rattle.fms64.proofs.Rows.{Done}
use Rattle.state.proofs.Holds.{Bytes}
use Prim.Native.Nat.{◌*◌, ◌-◌, ◌≤◌}
use Rattle.fms64.proofs.Less.matrix.Given as goal

abbrev pub invariant-loop-j : goal.invariant-loop-j
invariant-loop-j l = (l.j ≤ 8) × Done l.p l.self.terms l.self.skips_x l.self.on l.yon l.self.skips_z l.initial.state (8 * l.j) l.state × Bytes l.state

abbrev pub decreases-loop-j : goal.decreases-loop-j
decreases-loop-j l = 8 - l.j
