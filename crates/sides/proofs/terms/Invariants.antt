use Rattle.std.proofs.Common.{◌≡◌, ◌≤◌, ◌-◌, pos, get_or, length}
use Rattle.sides.proofs.Begun.{Begun}
use Rattle.sides.proofs.terms.Given as goal

abbrev pub invariant-loop-i : goal.invariant-loop-i
invariant-loop-i g l =
    (l.i ≤ l.m) × (length l.out ≡ 64) × Begun (pos 0) (λ k. goal.F-post g l.term (get_or l.xs k 0) (get_or l.ys k 0)) l.out l.i

abbrev pub decreases-loop-i : goal.decreases-loop-i
decreases-loop-i g l = l.m - l.i
