use lib.ListN.{length-set}
use native.Mathlib.Nat.{not-suc-le-zero}
use mathlib.Core.Path.{refl}
use native.Mathlib.Omega.{arith}
use Rattle.number.proofs.Fill.{fill_more}
use Rattle.sides.proofs.FirstLanes.{inside}
use Rattle.sides.proofs.filled.Goals as goal

pub loop-i-init : goal.loop-i-init
loop-i-init c = (omega arith, refl, λ j h. absurd (not-suc-le-zero h))

pub loop-i-preserved : goal.loop-i-preserved
loop-i-preserved c =
    let a = c.args in
    (omega arith, simp length-set (omega arith), fill_more 0 (λ k. a.v) c.loop-i.i a.v c.loop-i.out (omega arith) refl c.loop-i.invariant.2)

pub returns : goal.returns
returns c = λ k l h. c.loop-i.invariant.2 k (omega (arith, c.loop-i-test.false, inside c.args.n c.min-m.result c.min-m.ensures k l h))
