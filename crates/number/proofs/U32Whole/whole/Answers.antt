use Rattle.number.proofs.Slice.{two-halves}
use Rattle.number.specs.Bytes.{byte_at}
use Rattle.std.proofs.Common.{◌∙◌}
use Rattle.number.proofs.U32Whole.whole.Goals as goal

pub returns : goal.returns
returns c = two-halves 2 (byte_at c.args.s.now) c.args.at _ _
    (c.from.ensures ∙ c.whole.ensures) (c.from-2.ensures ∙ c.whole-2.ensures)
