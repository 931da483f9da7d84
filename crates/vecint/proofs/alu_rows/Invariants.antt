use Rattle.std.proofs.Common.{◌-◌, ◌≤◌, false, get_or}
use Rattle.vecint.specs.Accumulation.{z_bytes, z_lanes, accumulate}
use Rattle.state.proofs.Holds.{Bytes}
use Rattle.vecint.proofs.Bounds.{fits}
use Rattle.state.proofs.Dealing.{RowsTo}
use Rattle.vecint.proofs.alu_rows.Given as goal

abbrev pub invariant-loop-q : goal.invariant-loop-q
invariant-loop-q l =
    (l.q ≤ l.c) × RowsTo (z_bytes l.wide) (z_lanes l.wide) (fits l.wide) l.base l.c (λ k. get_or l.on k false) (accumulate l.wide l.how l.terms)
    l.initial.state l.q l.state × Bytes l.state

abbrev pub decreases-loop-q : goal.decreases-loop-q
decreases-loop-q l = l.c - l.q
