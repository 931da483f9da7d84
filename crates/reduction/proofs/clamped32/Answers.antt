use Rattle.number.proofs.Range.{clamp-low, clamp-high, clamp-in}
use mir.Facts.{to_z-of_z}
use mathlib.Core.Path.{sym, ◌∙◌}
use Rattle.reduction.proofs.clamped32.Goals as goal

pub returns-then-v-low : goal.returns-then-v-low
returns-then-v-low c =
    let a = c.args in
    to_z-of_z c.ranges.low ∙ sym (clamp-low a.low a.high a.v (rw (to_z-of_z c.ranges.v, to_z-of_z c.ranges.low) at c.if-v-low.true))

pub returns-then-high-v : goal.returns-then-high-v
returns-then-high-v c =
    let a = c.args in
    to_z-of_z c.ranges.high ∙ sym (clamp-high a.low a.high a.v (rw (to_z-of_z c.ranges.v, to_z-of_z c.ranges.low) at c.if-v-low.false)
    (rw (to_z-of_z c.ranges.high, to_z-of_z c.ranges.v) at c.if-high-v.true))

pub returns : goal.returns
returns c =
    let a = c.args in
    to_z-of_z c.ranges.v ∙ sym (clamp-in a.low a.high a.v (rw (to_z-of_z c.ranges.v, to_z-of_z c.ranges.low) at c.if-v-low.false)
    (rw (to_z-of_z c.ranges.high, to_z-of_z c.ranges.v) at c.if-high-v.false))
