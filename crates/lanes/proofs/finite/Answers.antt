use Rattle.std.proofs.Common.{map, subst, sym, ◌∙◌, arith}
use Rattle.std.proofs.lemmas.List.{get_or-map}
use Rattle.std.specs.Float.{binary64}
use Rattle.float.specs.Floats.{Finite}
use Rattle.lanes.proofs.Counted.{counted-more}
use Rattle.lanes.proofs.finite.Goals as goal

pub loop-l-preserved : goal.loop-l-preserved
loop-l-preserved g c =
    let a = c.args.a.now in
    let p = g.T.Lane.bits in
    let l = c.loop-l.l in
    let one = c.special-found.ensures in
    let here = get_or-map p a l c.index-a-l.result 0 (omega (arith, c.told-a, c.loop-l-test.true)) in (
      omega (arith, c.loop-l-test.true),
      counted-more binary64 (map p a) l c.loop-l.found c.special-found.result one.0
          (λ e. subst (Finite binary64) (c.widened.ensures ∙ sym here) (one.1 e)) c.loop-l.invariant.1,
    )
