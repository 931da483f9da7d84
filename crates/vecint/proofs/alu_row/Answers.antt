use Rattle.std.proofs.Common.{◌*◌, ◌≤◌, Bool, refl, sym, ◌∙◌, subst, arith}
use Rattle.isa.specs.Effect.{applied}
use Rattle.vecint.specs.Accumulation.{z_lanes, row_of}
use Rattle.vecint.proofs.alu_row.Goals as goal

pub row_in-requires : goal.row_in-requires
row_in-requires c = (c.requires.0, c.requires.1, c.requires.2, omega (arith, subst (λ (w : Bool). z_lanes w * c.args.c ≤ 64) c.if-wide.true c.requires.3), refl)

pub returns-then-wide : goal.returns-then-wide
returns-then-wide c =
    let a = c.args in
    c.row_in.ensures ∙ (λ i. applied (row_of (sym c.if-wide.true i) a.row a.q a.c a.terms.now a.on.now a.how) a.state.now)

pub row_in-requires-2 : goal.row_in-requires-2
row_in-requires-2 c =
    (c.requires.0, c.requires.1, c.requires.2, omega (arith, subst (λ (w : Bool). z_lanes w * c.args.c ≤ 64) c.if-wide.false c.requires.3), refl)

pub returns : goal.returns
returns c =
    let a = c.args in
    c.row_in-2.ensures ∙ (λ i. applied (row_of (sym c.if-wide.false i) a.row a.q a.c a.terms.now a.on.now a.how) a.state.now)
