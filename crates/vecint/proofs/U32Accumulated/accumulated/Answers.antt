use Rattle.std.proofs.Common.{ℤ, ap, ◌∙◌, to_z-of_z}
use Rattle.number.specs.Bytes.{span}
use Rattle.number.specs.Integers.{signed, wrap}
use Rattle.vecint.proofs.Lanes.{wide-summed}
use Rattle.vecint.specs.Accumulation.{summed}
use Rattle.vecint.proofs.U32Accumulated.accumulated.Goals as goal

pub returns : goal.returns
returns c =
    let a = c.args in
    c.sum.ensures ∙ ap (λ (t : ℤ). wrap (span 4) (summed a.how (signed 4 a.self) t)) (to_z-of_z c.ranges.t)
    ∙ ap (wrap (span 4)) (wide-summed a.how (signed 4 a.self) a.t)
