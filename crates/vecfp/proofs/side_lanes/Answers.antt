use Rattle.std.proofs.Common.{rules, refl, arith}
use Rattle.vecfp.specs.Vectors.{side_byte}
use Rattle.vecfp.proofs.Sides.{row-filled, numbers-of, side-own, side-one}
use Rattle.vecfp.proofs.side_lanes.Goals as goal

pub words-words-requires : goal.words-words-requires
words-words-requires g c = let fit = row-filled g.T.Pattern.format g.T.Lane.BYTES g.row.N c.requires in search rules

pub returns-in-None : goal.returns-in-None
returns-in-None g c =
    let a = c.args in
    let f = g.T.Pattern.format in
    side-own f a.state.now a.side c.in-None.is
    (numbers-of f g.T.Lane.BYTES g.row.N c.requires (side_byte a.state.now a.side) c.side_bytes.result c.side_bytes.ensures c.words-words.ensures)

pub returns-in-Some : goal.returns-in-Some
returns-in-Some g c =
    let a = c.args in
    let f = g.T.Pattern.format in
    side-one f a.state.now a.side g.T.Lane.bits c.words-words.result _ c.index-words-lane.result g.row.N c.in-Some.lane c.requires.1
    (omega (arith, c.words-words.type_inv))
    c.in-Some.is
    (numbers-of f g.T.Lane.BYTES g.row.N c.requires (side_byte a.state.now a.side) c.side_bytes.result c.side_bytes.ensures c.words-words.ensures) refl
