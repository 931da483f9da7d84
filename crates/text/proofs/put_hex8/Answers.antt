use Prim.Native.Nat.{◌+◌}
use Rattle.text.proofs.Pieces.{byte_stored, two-stored}
use Rattle.text.proofs.put_hex8.Goals as goal

pub returns : goal.returns
returns c =
    let a = c.args in
    let high = c.hex_digit in
    let first = c.put in
    let low = c.hex_digit-2 in
    let second = c.put-2 in
    two-stored a.out.now first.new.s second.new.s a.at high.result low.result a.b high.ensures low.ensures
    (byte_stored a.out.now first.new.s a.at high.result high.type_inv first.ensures)
    (byte_stored first.new.s second.new.s (a.at + 1) low.result low.type_inv second.ensures)
