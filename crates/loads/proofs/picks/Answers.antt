use Rattle.std.proofs.Common.{rules}
use Rattle.number.proofs.Made.{from_fn-table}
use Rattle.number.specs.Bytes.{byte_at}
use Rattle.isa.specs.Vecint as Vecint
use Rattle.sides.specs.Sides.{lane_bytes}
use Rattle.loads.proofs.picks.Goals as goal

pub returns : goal.returns
returns c =
    let a = c.args in
    from_fn-table (Vecint.picked (lane_bytes a.wide) (Vecint.index_width a.four) (byte_at a.packed.now) (byte_at a.register.now))
    (λ i y q h k. search rules) c.from_fn.ensures.items
