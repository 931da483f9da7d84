use borrow.Author.Tests.{not-true, not-false}
use Rattle.sides.proofs.Lanes.{side-fixed, side-bytes, side-twice, side-once}
use Rattle.sides.proofs.side16.Goals as goal

pub returns-in-Some : goal.returns-in-Some
returns-in-Some c =
    let a = c.args in
    side-fixed a.how.wide a.how.sign a.bytes.now a.how.fixed a.how.halved a.n c.filled.result c.in-Some.lane c.one_lane.result c.filled.ensures
    c.one_lane.ensures c.in-Some.is

pub returns-then-not-how : goal.returns-then-not-how
returns-then-not-how c =
    let a = c.args in
    side-bytes a.how.wide a.how.sign a.bytes.now a.how.fixed a.how.halved a.n c.bytes16.result c.bytes16.ensures c.in_default.is
    (not-true a.how.wide c.if-not-how.true)

pub returns-then-how : goal.returns-then-how
returns-then-how c =
    let a = c.args in
    side-twice a.how.wide a.how.sign a.bytes.now a.how.fixed a.how.halved a.n c.twice.result c.half_pairs-xs.result
    c.half_pairs-xs.ensures c.twice.ensures c.in_default.is (not-false a.how.wide c.if-not-how.false) c.if-how.true

pub returns : goal.returns
returns c =
    let a = c.args in
    side-once a.how.wide a.how.sign a.bytes.now a.how.fixed a.how.halved a.n c.pairs.result c.pairs.ensures c.in_default.is
    (not-false a.how.wide c.if-not-how.false) c.if-how.false
