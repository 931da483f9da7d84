use Prim.Native.Nat.{◌/◌, ◌%◌}
use mathlib.Core.Path.{sym, ◌∙◌}
use mathlib.Core.Bool.{true, cond}
use Rattle.number.specs.Integers.{read}
use Rattle.sides.specs.Sides.{lane_of, lane_bytes}
use Rattle.sides.proofs.Lanes.{lane-pair}
use Rattle.sides.proofs.one_lane.Goals as goal

pub returns-then-wide : goal.returns-then-wide
returns-then-wide c =
    let a = c.args in
    (λ t. read (cond (c.if-wide.true t) a.sign true) 2 c.one_pair.result)
    ∙ lane-pair a.sign a.bytes.now (a.lane % 32) c.one_pair.result c.one_pair.ensures
    ∙ (λ t. lane_of a.sign (lane_bytes (sym c.if-wide.true t)) a.bytes.now (a.lane % (64 / lane_bytes (sym c.if-wide.true t))))

pub returns : goal.returns
returns c =
    let a = c.args in
    (λ t. read (cond (c.if-wide.false t) a.sign true) 2 c.one_byte.result) ∙ c.one_byte.ensures
    ∙ (λ t. lane_of a.sign (lane_bytes (sym c.if-wide.false t)) a.bytes.now (a.lane % (64 / lane_bytes (sym c.if-wide.false t))))
