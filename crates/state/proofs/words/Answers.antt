use Rattle.std.proofs.Common.{rules, ◌*◌}
use Rattle.number.specs.Bytes.{byte_at, number}
use Rattle.number.proofs.Made.{from_fn-map}
use Rattle.state.proofs.words.Goals as goal

pub returns : goal.returns
returns g c =
    let b = g.T.Lane.BYTES in
    from_fn-map g.T.Lane.bits (λ l. number b (byte_at c.args.bytes.now) (b * l)) _ (λ i y q h k. search rules) c.from_fn.ensures.items
