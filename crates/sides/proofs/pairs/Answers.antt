use lib.ListN.{length-set}
use mathlib.Core.Path.{◌≡◌, refl}
use native.Mathlib.Omega.{arith}
use Rattle.sides.specs.Sides.{pair_of}
use Rattle.sides.proofs.Begun.{begun-none, begun_more, begun_all}
use Rattle.sides.proofs.Lanes.{pair_is, pair-past}
use Rattle.sides.proofs.pairs.Goals as goal

pub loop-i-init : goal.loop-i-init
loop-i-init c = (omega arith, refl, begun-none 0 (λ k v. v ≡ pair_of c.args.bytes k) 64)

pub loop-i-preserved : goal.loop-i-preserved
loop-i-preserved c =
    let a = c.args in (
      omega arith,
      simp length-set (omega arith),
      begun_more 0 (λ k v. v ≡ pair_of a.bytes k) c.loop-i.i c.load.result c.loop-i.out (omega arith)
          (pair_is a.bytes c.loop-i.i c.load.result c.load.ensures) c.loop-i.invariant.2,
    )

pub returns : goal.returns
returns c =
    let a = c.args in
    begun_all 0 (pair_of a.bytes) 64 c.loop-i.i c.loop-i.out c.loop-i.invariant.1 (λ k h l. pair-past a.bytes (omega arith) k (omega arith))
    c.loop-i.invariant.2
