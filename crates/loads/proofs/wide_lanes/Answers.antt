use mathlib.Core.Path.{sym, ap, ◌∙◌}
use Prim.Native.Nat.{ℕ}
use lib.Dec.{eqb}
use Rattle.number.proofs.Tests.{pick_true, pick_false}
use Rattle.loads.proofs.wide_lanes.Goals as goal

pub returns-then-y : goal.returns-then-y
returns-then-y c = ap (λ (n : ℕ). eqb n 2) (c.y_width.ensures.0 ∙ sym (pick_true _ _ c.if-y.true))

pub returns : goal.returns
returns c = ap (λ (n : ℕ). eqb n 2) (c.x_width.ensures.0 ∙ sym (pick_false _ _ c.if-y.false))
