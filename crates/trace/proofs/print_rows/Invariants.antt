use Prim.Native.Nat.{◌-◌, ◌*◌, ◌≤◌}
use Rattle.text.proofs.Pieces.{Stored}
use Rattle.trace.specs.Trace.{row_lines}
use Rattle.trace.proofs.print_rows.Given as goal

abbrev pub invariant-loop-row : goal.invariant-loop-row
invariant-loop-row l = (l.row ≤ 64) × (l.at ≤ 152 * l.row) × Stored l.initial.out 0 (row_lines l.start l.state l.row) l.out l.at

abbrev pub decreases-loop-row : goal.decreases-loop-row
decreases-loop-row l = 64 - l.row
