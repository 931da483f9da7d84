use mathlib.Core.Path.{◌∙◌}
use Prim.Native.Nat.{◌/◌, ◌%◌, ◌^◌}
use Rattle.number.specs.Bytes.{byte_at}
use Rattle.isa.specs.Vecint as Vecint
use Rattle.loads.proofs.index_at.Goals as goal

pub returns : goal.returns
unfolding Vecint.index_at
returns c =
    let a = c.args in
    let at = c.first_bit-at.ensures.0 in
    (c.low_bits.ensures.0 ∙ (λ t. byte_at a.packed.now (at t / 8) / 2 ^ (at t % 8) % 2 ^ Vecint.index_width a.four), c.low_bits.ensures.1)
