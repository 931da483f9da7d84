use Rattle.mac16.proofs.Rows.{Done32}
use Rattle.mac16.specs.Products.{masked}
use Rattle.state.proofs.Holds.{Bytes}
use Prim.Native.Nat.{◌*◌, ◌-◌, ◌%◌, ◌≤◌}
use Rattle.mac16.proofs.matrix32.Given as goal

abbrev pub invariant-loop-j : goal.invariant-loop-j
invariant-loop-j l =
    (l.j ≤ 32) × Done32 0 (masked l.x.on l.x.lanes) l.x.on l.y.lanes l.y.on (l.sum.shift % 32) l.sum.keep l.initial.state (l.j * 2) l.state
    × Bytes l.state

abbrev pub decreases-loop-j : goal.decreases-loop-j
decreases-loop-j l = 32 - l.j
