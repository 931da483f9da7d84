use Rattle.std.proofs.Common.{refl, sym, get_or, pos, length-set, subst, arith, w32}
use mir.Facts.{to_z-of_z}
use borrow.Author.Rules.{sfits_of}
use Rattle.sides.specs.Sides.{HoldsEach}
use Rattle.sides.proofs.Begun.{begun-none, begun_more}
use Rattle.sides.proofs.FirstLanes.{inside}
use Rattle.sides.proofs.terms.Goals as goal

pub loop-i-init : goal.loop-i-init
loop-i-init g c = (omega arith, refl, begun-none (pos 0) (λ k v. g.F.Fn.post c.args.term (get_or c.args.xs.now k 0, (get_or c.args.ys.now k 0, tt {0})) v) 64)

pub loop-i-preserved : goal.loop-i-preserved
loop-i-preserved g c =
    let a = c.args in (
      omega arith,
      simp length-set (omega arith),
      begun_more (pos 0) (λ k v. g.F.Fn.post a.term (get_or a.xs.now k 0, (get_or a.ys.now k 0, tt {0})) v) c.loop-i.i _ c.loop-i.out
          (omega arith) (rw (to_z-of_z {w = w32} (sfits_of c.term.type_inv)) c.term.ensures) c.loop-i.invariant.2,
    )

pub returns : goal.returns
unfolding HoldsEach
returns g c = (
  c.loop-i.invariant.1,
  λ k l h. c.loop-i.invariant.2.0 k (omega (arith, c.loop-i-test.false, inside c.args.n c.min-m.result c.min-m.ensures k l h)),
  λ k h. c.loop-i.invariant.2.1 k (omega (arith, h, c.min-m.ensures)),
)
