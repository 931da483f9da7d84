use Rattle.number.proofs.Slice.{number_past, short_half, two-halves}
use Rattle.number.specs.Bytes.{byte_at}
use Rattle.std.proofs.Common.{sym, ◌∙◌, arith}
use Rattle.number.proofs.U64Lane.get.Goals as goal

pub returns-then-s-at : goal.returns-then-s-at
returns-then-s-at c = sym (number_past 8 c.args.s.now c.args.at c.if-s-at.true)

pub returns-then-s-at-le4 : goal.returns-then-s-at-le4
returns-then-s-at-le4 c =
    let a = c.args in
    short_half 4 a.s.now a.at c.from.result (omega arith) (c.from.ensures ∙ c.get.ensures)

pub returns : goal.returns
returns c =
    two-halves 4 (byte_at c.args.s.now) c.args.at _ _
    (c.from-2.ensures ∙ c.get-2.ensures) (c.from-3.ensures ∙ c.get-3.ensures)
