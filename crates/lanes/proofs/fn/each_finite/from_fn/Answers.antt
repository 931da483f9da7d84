use Rattle.std.proofs.Common.{subst, sym, ap, ◌∙◌, arith}
use Rattle.std.specs.Float.{binary64}
use Rattle.float.specs.Floats.{Finite}
use Rattle.lanes.specs.Lanes.{asks_both}
use Rattle.lanes.proofs.Elements.{element-finite}
use Rattle.lanes.proofs.fn.each_finite.from_fn.Goals as goal

pub of_finite-requires : goal.of_finite-requires
of_finite-requires g c =
    let p = g.T.Lane.bits in
    let inside = c.requires.0 in (
      subst (Finite binary64) (sym c.widened.ensures) (element-finite binary64 p c.captures.a.now (omega arith) c.requires.2 c.args.l inside _),
      λ both. subst (Finite binary64) (sym c.widened-2.ensures)
          (element-finite binary64 p c.captures.b.now (omega arith) (c.requires.3 (ap asks_both (sym c.KIND.ensures) ∙ both)) c.args.l inside _),
    )
