use Rattle.std.proofs.Common.{◌+◌, ◌*◌, sym, ◌∙◌}
use Rattle.number.specs.Bytes.{byte_at}
use Rattle.number.proofs.Slice.{one_byte}
use Rattle.file.proofs.Records.{record_same}
use Rattle.file.proofs.record_in.Goals as goal

pub returns : goal.returns
returns c =
    let byte = one_byte (byte_at c.args.steps.now) in
    let at = 16 * c.args.i in
    record_same (c.from.ensures ∙ c.get.ensures ∙ sym (byte at)) (c.from-2.ensures ∙ c.get-2.ensures ∙ sym (byte (at + 1))) c.get-3.ensures
