use mathlib.Core.Path.{◌≡◌}
use mathlib.Core.Bool.{false}
use Prim.Native.Nat.{◌-◌, ◌*◌, ◌≤◌}
use lib.ListN.{get_or}
use Rattle.state.proofs.Holds.{Bytes}
use Rattle.state.proofs.Dealing.{Lanes}
use Rattle.reduction.specs.Reduction.{reduce_to}
use Rattle.reduction.proofs.row_of.Given as goal

abbrev pub invariant-loop-l : goal.invariant-loop-l
invariant-loop-l g l =
    let b = g.T.Lane.BYTES in
    (l.l ≤ g.row.N)
    × ((fit : g.row.N * b ≡ 64) × Lanes b g.row.N fit l.row (λ k. get_or l.on k false) (λ k. reduce_to b l.how) l.initial.state l.l l.state)
    × Bytes l.state

abbrev pub decreases-loop-l : goal.decreases-loop-l
decreases-loop-l g l = g.row.N - l.l
