use mathlib.Core.Path.{sym, ap, ◌∙◌}
use Prim.Native.Nat.{ℕ, ◌+◌}
use native.Mathlib.Omega.{arith}
use Rattle.number.proofs.Tests.{pick_true, pick_false}
use Rattle.vecfp.proofs.offset.Goals as goal

pub returns-then-same : goal.returns-then-same
returns-then-same c =
    let first = c.args.first in
    sym (ap (λ (n : ℕ). first + n) (pick_true _ _ c.if-same.true) ∙ omega arith)

pub returns : goal.returns
returns c =
    let first = c.args.first in
    sym (ap (λ (n : ℕ). first + n) (pick_false _ _ c.if-same.false))
