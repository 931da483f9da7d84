use Rattle.std.proofs.Common.{rules, sym, ◌∙◌, ◌+◌, ◌%◌}
use Rattle.number.specs.Bytes.{byte_at, number, table}
use Rattle.number.proofs.Made.{from_fn-table}
use Rattle.number.proofs.Slice.{one_byte}
use Rattle.state.proofs.ring.Goals as goal

pub returns : goal.returns
returns c =
    let s = c.args.state.now in
    from_fn-table (λ i. number 1 (byte_at s) (c.args.base + (c.args.from + i) % 512)) (λ i y q h k. search rules) c.from_fn.ensures.items
    ∙ (λ t. table (λ i. sym (one_byte (byte_at s) (c.args.base + (c.args.from + i) % 512)) t) 0 64)
