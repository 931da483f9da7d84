use lib.ListN.{length-set}
use native.Mathlib.Nat.{not-suc-le-zero}
use mathlib.Core.Path.{refl}
use native.Mathlib.Omega.{arith}
use Rattle.sides.proofs.Lanes.{twice-more}
use Rattle.sides.proofs.FirstLanes.{inside}
use Rattle.sides.proofs.twice.Goals as goal

pub loop-i-init : goal.loop-i-init
loop-i-init c = (omega arith, refl, λ j h. absurd (not-suc-le-zero h))

pub loop-i-preserved : goal.loop-i-preserved
loop-i-preserved c = (omega arith, simp length-set (omega arith), twice-more c.args.xs.now c.loop-i.i _ c.loop-i.out (omega arith) refl c.loop-i.invariant.2)

pub returns : goal.returns
returns c = λ k l h. c.loop-i.invariant.2 k (omega (arith, c.loop-i-test.false, inside c.args.n c.min.result c.min.ensures k l h))
