use Rattle.std.proofs.Common.{ℤ, ap, ◌∙◌, to_z-of_z}
use Rattle.number.specs.Bytes.{span}
use Rattle.number.specs.Integers.{signed, wrap}
use Rattle.vecint.proofs.Lanes.{is-clamped, is-summed}
use Rattle.vecint.specs.Accumulation.{summed, clamped_sum}
use Rattle.vecint.proofs.U16Accumulated.accumulated.Goals as goal

pub returns-then-how : goal.returns-then-how
returns-then-how c =
    let a = c.args in
    c.clamp16.ensures ∙ ap (λ (t : ℤ). wrap (span 2) (clamped_sum a.how (signed 2 a.self) t)) (to_z-of_z c.ranges.t)
    ∙ ap (wrap (span 2)) (is-clamped a.how (signed 2 a.self) a.t c.if-how.true)

pub returns : goal.returns
returns c =
    let a = c.args in
    c.sum.ensures ∙ ap (λ (t : ℤ). wrap (span 2) (summed a.how (signed 2 a.self) t)) (to_z-of_z c.ranges.t)
    ∙ ap (wrap (span 2)) (is-summed a.how (signed 2 a.self) a.t c.if-how.false)
