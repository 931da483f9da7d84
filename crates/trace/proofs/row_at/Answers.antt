use Rattle.std.proofs.Common.{◌+◌, sym, ◌∙◌, rules}
use Rattle.number.specs.Bytes.{byte_at, number}
use Rattle.number.proofs.Bytes.{table_same}
use Rattle.number.proofs.Made.{from_fn-table}
use Rattle.number.proofs.Slice.{one_byte}
use Rattle.trace.proofs.row_at.Goals as goal

pub returns : goal.returns
returns c =
    let a = c.args in
    from_fn-table (λ k. number 1 (byte_at a.s.now) (a.at + k)) (λ i y q h k. search rules) c.from_fn.ensures.items
    ∙ table_same (λ k. number 1 (byte_at a.s.now) (a.at + k)) (λ k. byte_at a.s.now (a.at + k)) 64 (λ k l. sym (one_byte (byte_at a.s.now) (a.at + k)))
