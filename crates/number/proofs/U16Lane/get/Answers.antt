use Rattle.number.proofs.Slice.{number_past, one_byte, two_bytes}
use Rattle.number.specs.Bytes.{byte_at}
use Rattle.std.proofs.Common.{ℕ, ◌+◌, refl, sym, ◌∙◌, arith}
use Rattle.number.proofs.U16Lane.get.Goals as goal

pub returns-then-s-at : goal.returns-then-s-at
returns-then-s-at c = sym (number_past 2 c.args.s.now c.args.at c.if-s-at.true)

pub returns : goal.returns
returns c =
    let f : ℕ → ℕ = byte_at c.args.s.now in
    omega (arith, c.from_le_bytes.ensures, two_bytes f c.args.at _ _ refl (c.get.ensures ∙ sym (one_byte f (c.args.at + 1))))
