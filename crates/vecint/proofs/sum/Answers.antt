use Rattle.std.proofs.Common.{ap, ◌∙◌, to_z-of_z, w64}
use borrow.Author.Rules.{sfits_of}
use Rattle.number.specs.Bytes.{span}
use Rattle.number.specs.Integers.{wrap}
use Rattle.vecint.proofs.Lanes.{in_place, taken-from, added-to}
use Rattle.vecint.proofs.sum.Goals as goal

pub returns-then-not-how : goal.returns-then-not-how
returns-then-not-how g c =
    let a = c.args in
    let b = g.T.Lane.BYTES in
    in_place a.how b (g.T.Lane.bits a.z) a.t 0 (g.T.Lane.bits c.wrapped-v.result)
    (c.wrapped-v.ensures ∙ ap (wrap (span b)) (to_z-of_z {w = w64} (sfits_of c.from.type_inv) ∙ c.from.ensures ∙ to_z-of_z c.ranges.t))
    c.if-not-how.true

pub returns-then-how : goal.returns-then-how
returns-then-how g c =
    let a = c.args in
    let b = g.T.Lane.BYTES in
    taken-from a.how b (g.T.Lane.bits a.z) a.t _ (g.T.Lane.bits c.wrapped-v.result)
    (c.wrapped-v.ensures ∙ ap (wrap (span b)) (to_z-of_z {w = w64} (sfits_of c.from.type_inv) ∙ c.from.ensures ∙ to_z-of_z c.ranges.t))
    c.if-not-how.false c.if-how.true c.minus.ensures

pub returns : goal.returns
returns g c =
    let a = c.args in
    let b = g.T.Lane.BYTES in
    added-to a.how b (g.T.Lane.bits a.z) a.t _ (g.T.Lane.bits c.wrapped-v.result)
    (c.wrapped-v.ensures ∙ ap (wrap (span b)) (to_z-of_z {w = w64} (sfits_of c.from.type_inv) ∙ c.from.ensures ∙ to_z-of_z c.ranges.t))
    c.if-not-how.false c.if-how.false c.plus.ensures
