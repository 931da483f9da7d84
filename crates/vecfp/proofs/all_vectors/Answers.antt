use Rattle.std.proofs.Common.{rules, ℕ, ◌<◌, subst, arith}
use Rattle.vecfp.proofs.VectorsLoop.{done_none, done_more, done_all}
use Rattle.vecfp.proofs.all_vectors.Goals as goal

pub loop-v-init : goal.loop-v-init
loop-v-init g c = done_none c.told-state c.fits-state

pub vector-requires : goal.vector-requires
vector-requires g c =
    let pre = c.requires in
    let inside = subst (λ (n : ℕ). c.loop-v.v < n) c.vectors-vectors.ensures.0 c.loop-v-test.true in
    (search rules, (search rules, (pre.0, pre.1, inside, pre.2, pre.3)))

pub loop-v-preserved : goal.loop-v-preserved
loop-v-preserved g c = done_more c.loop-v.invariant (omega arith) c.vector.ensures

pub returns : goal.returns
returns g c = done_all c.loop-v.invariant c.loop-v-test.false c.vectors-vectors.ensures.0 c.told-state c.fits-state
