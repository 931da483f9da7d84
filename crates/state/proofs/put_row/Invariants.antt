use Rattle.state.proofs.Numbers.{Stored}
use Rattle.std.proofs.Common.{◌≡◌, ◌*◌, ◌-◌, map}
use Rattle.state.proofs.put_row.Given as goal

abbrev pub invariant-loop-l : goal.invariant-loop-l
invariant-loop-l g l =
    (fit : g.row.N * g.T.Lane.BYTES ≡ 64) × Stored g.T.Lane.BYTES g.row.N fit l.row (map g.T.Lane.bits l.values) l.on l.initial.state l.l l.state

abbrev pub decreases-loop-l : goal.decreases-loop-l
decreases-loop-l g l = g.row.N - l.l
