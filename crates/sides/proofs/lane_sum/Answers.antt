use Prim.Native.Nat.{◌≤◌}
use lib.IntN.{ℤ, ◌+ℤ◌}
use mathlib.Core.Path.{◌≡◌, refl, sym}
use borrow.Author.Rules.{sfits_of}
use native.Mathlib.Omega.{arith}
use Rattle.sides.proofs.Kept.{sum_fits, sum_is, lanes-sum}
use lib.Signed.{mag}
use mathlib.Core.Path.{subst}
use Rattle.sides.proofs.lane_sum.Goals as goal

pub overflow_add-result : goal.overflow_add-result
overflow_add-result c = sum_fits c.args.x c.args.y c.ranges.x c.ranges.y (sfits_of (omega (arith, lanes-sum c.args.x c.args.y c.requires.0 c.requires.1)))

pub returns : goal.returns
returns c =
    let a = c.args in
    subst (λ (z : ℤ). (z ≡ a.x +ℤ a.y) × (mag z ≤ 2147450880)) (sym
    (sum_is a.x a.y c.ranges.x c.ranges.y (sfits_of (omega (arith, lanes-sum a.x a.y c.requires.0 c.requires.1)))))
    (refl, omega (arith, lanes-sum a.x a.y c.requires.0 c.requires.1))
