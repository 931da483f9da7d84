use Rattle.isa.specs.Vecint as Vecint
use Rattle.number.specs.Bytes.{byte_at}
use Rattle.loads.proofs.Indices.{of-two-bytes, of-one-byte}
use Rattle.loads.proofs.picked.Goals as goal

pub returns-then-wide : goal.returns-then-wide
returns-then-wide c =
    let a = c.args in
    of-two-bytes (byte_at a.packed.now) (byte_at a.register.now) (Vecint.index_width a.four) a.i
    c.if-wide.true c.index_at.ensures.0

pub returns : goal.returns
returns c =
    let a = c.args in
    of-one-byte (byte_at a.packed.now) (byte_at a.register.now) (Vecint.index_width a.four) a.i
    c.if-wide.false c.index_at-2.ensures.0
