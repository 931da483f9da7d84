use Rattle.mac16.proofs.Rows.{Done16}
use Rattle.state.proofs.Holds.{Bytes}
use Prim.Native.Nat.{◌*◌, ◌-◌, ◌%◌, ◌≤◌, ◌<◌}
use Rattle.mac16.proofs.matrix16.Given as goal

abbrev pub invariant-loop-j : goal.invariant-loop-j
invariant-loop-j l =
    (l.j ≤ 32) × ((hp : l.p < 2) → Done16 l.p hp l.x.lanes l.x.on l.y.lanes l.y.on (l.sum.shift % 32) l.sum.keep l.initial.state (2 * l.j) l.state)
    × Bytes l.state

abbrev pub decreases-loop-j : goal.decreases-loop-j
decreases-loop-j l = 32 - l.j
