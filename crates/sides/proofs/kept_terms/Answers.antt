use Rattle.std.proofs.Common.{rules, ◌%◌, true, sym, ◌∙◌}
use Rattle.sides.specs.Sides.{side_by, kept_terms, values_of}
use Rattle.sides.proofs.Kept.{kept-each, kept-lanes, read-lanes}
use Rattle.sides.proofs.kept_terms.Goals as goal

pub returns-then-plus : goal.returns-then-plus
returns-then-plus c =
    let a = c.args in
    kept-each a.n true a.shift.rounds (a.shift.by % 32) c.signed_by-xsigned.result c.signed_by-ysigned.result c.side16-xs.result c.side16-ys.result _
    c.terms.ensures (λ x y r k. search rules)
    ∙ (λ t. kept_terms a.n (sym c.if-plus.true t) a.shift.rounds (a.shift.by % 32) (values_of c.signed_by-xsigned.result c.side16-xs.result)
    (values_of c.signed_by-ysigned.result c.side16-ys.result))
    ∙ kept-lanes a.n a.plus a.shift.rounds (a.shift.by % 32) _ _ (side_by a.x a.xbytes.now) (side_by a.y a.ybytes.now)
    (read-lanes a.n a.x a.xbytes.now c.side16-xs.result c.signed_by-xsigned.result c.side16-xs.ensures c.signed_by-xsigned.ensures)
    (read-lanes a.n a.y a.ybytes.now c.side16-ys.result c.signed_by-ysigned.result c.side16-ys.ensures c.signed_by-ysigned.ensures)

pub returns : goal.returns
returns c =
    let a = c.args in
    c.products.ensures ∙ (λ t. kept_terms a.n (sym c.if-plus.false t) a.shift.rounds (a.shift.by % 32)
    (values_of c.signed_by-xsigned.result c.side16-xs.result) (values_of c.signed_by-ysigned.result c.side16-ys.result))
    ∙ kept-lanes a.n a.plus a.shift.rounds (a.shift.by % 32) _ _ (side_by a.x a.xbytes.now) (side_by a.y a.ybytes.now)
    (read-lanes a.n a.x a.xbytes.now c.side16-xs.result c.signed_by-xsigned.result c.side16-xs.ensures c.signed_by-xsigned.ensures)
    (read-lanes a.n a.y a.ybytes.now c.side16-ys.result c.signed_by-ysigned.result c.side16-ys.ensures c.signed_by-ysigned.ensures)
