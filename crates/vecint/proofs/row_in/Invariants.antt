use Rattle.std.proofs.Common.{◌≡◌, ◌+◌, ◌-◌, ◌*◌, ◌≤◌, false, get_or}
use Rattle.vecint.specs.Accumulation.{z_bytes, accumulate}
use Rattle.state.proofs.Holds.{Bytes}
use Rattle.state.proofs.Dealing.{Lanes}
use Rattle.vecint.proofs.row_in.Given as goal

abbrev pub invariant-loop-l : goal.invariant-loop-l
invariant-loop-l g l =
    let wide = g.T.Accumulated.wide in
    (l.l ≤ g.row.N)
    × ((fit : g.row.N * z_bytes wide ≡ 64)
    × Lanes (z_bytes wide) g.row.N fit l.row (λ k. get_or l.on (k * l.c + l.q) false) (λ k. accumulate wide l.how l.terms (k * l.c + l.q)) l.initial.state
    l.l l.state)
    × Bytes l.state

abbrev pub decreases-loop-l : goal.decreases-loop-l
decreases-loop-l g l = g.row.N - l.l
