use Rattle.std.proofs.Common.{◌+◌, refl, sym, ◌∙◌, length}
use Rattle.number.specs.Bytes.{byte_at}
use Rattle.number.proofs.Fill.{filling-none, filling-more, filling-all}
use Rattle.number.proofs.Slice.{one_byte}
use Rattle.file.proofs.copy_bytes.Goals as goal

pub loop-i-init : goal.loop-i-init
loop-i-init c =
    let a = c.args in
    filling-none 0 (λ k. byte_at a.source.now (a.from + k)) (length a.out.now) a.out.now refl

pub loop-i-preserved : goal.loop-i-preserved
loop-i-preserved c =
    let a = c.args in
    filling-more 0 (λ k. byte_at a.source.now (a.from + k)) (length a.out.now) c.loop-i.i c.get.result c.loop-i.out c.loop-i-test.true
    (c.get.ensures ∙ sym (one_byte (byte_at a.source.now) (a.from + c.loop-i.i))) c.loop-i.invariant

pub returns : goal.returns
returns c =
    let a = c.args in
    filling-all 0 (λ k. byte_at a.source.now (a.from + k)) (length a.out.now) c.loop-i.i c.loop-i.out c.loop-i-test.false c.loop-i.invariant
