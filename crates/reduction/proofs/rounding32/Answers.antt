use Rattle.reduction.proofs.Cases.{cast_fits, cast_is}
use borrow.Author.Rules.{sfits_of}
use native.Mathlib.Omega.{arith}
use mathlib.Core.Path.{◌≡◌, sym, subst}
use Prim.Native.Nat.{◌^◌, ◌≤◌}
use lib.IntN.{ℤ}
use lib.Signed.{mag}
use Rattle.reduction.specs.Reduction.{added_to}
use Rattle.reduction.proofs.rounding32.Goals as goal

pub overflow_cast-result : goal.overflow_cast-result
overflow_cast-result c = cast_fits c.rounding.result (sfits_of (omega (arith, c.rounding.ensures.1)))

pub returns : goal.returns
returns c =
    subst (λ (r : ℤ). (r ≡ added_to c.args.how) × (mag r ≤ 2 ^ 30)) (sym
    (cast_is c.rounding.result (sfits_of (omega (arith, c.rounding.ensures.1))))) c.rounding.ensures
