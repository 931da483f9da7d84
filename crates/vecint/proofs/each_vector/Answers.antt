use Rattle.std.proofs.Common.{ℕ, ◌<◌, ◌≤◌, sym, ◌∙◌, subst, arith}
use Rattle.vecint.proofs.VectorsLoop.{vectors-none, vectors-more, vectors-all}
use Rattle.vecint.proofs.each_vector.Goals as goal

pub loop-v-init : goal.loop-v-init
loop-v-init c = (omega arith, vectors-none c.args.generation c.args.op c.args.state.now c.requires.0, λ p. (c.slice_known-1.given p).fits)

pub vector-requires : goal.vector-requires
vector-requires c = (c.loop-v.invariant.1.size, subst (λ (n : ℕ). c.loop-v.v < n) c.vectors-vectors.ensures.0 c.loop-v-test.true, c.requires.1)

pub loop-v-preserved : goal.loop-v-preserved
loop-v-preserved c =
    let a = c.args in (
      omega arith,
      vectors-more a.generation a.op a.state.now c.loop-v.v c.loop-v.state c.vector.new.state c.loop-v.invariant.1 c.vector.ensures,
      λ p.
          (c.slice_known-in-loop-v-1.given p).fits,
    )

pub shape_of-state : goal.shape_of-state
shape_of-state c = c.loop-v.invariant.1.size ∙ sym c.requires.0

pub returns : goal.returns
returns c =
    let a = c.args in
    vectors-all a.generation a.op a.state.now c.loop-v.v c.loop-v.state
    (subst (λ (n : ℕ). n ≤ c.loop-v.v) c.vectors-vectors.ensures.0 c.loop-v-test.false) c.requires.0 (λ p. (c.slice_known-1.given p).fits)
    c.loop-v.invariant.2 c.loop-v.invariant.1
