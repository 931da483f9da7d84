use Rattle.number.proofs.Slice.{sets-past, stored, stored_short}
use Rattle.number.specs.Bytes.{bytes_of}
use Rattle.std.proofs.Common.{sym, refl, arith}
use Rattle.number.proofs.U32Lane.put.Goals as goal

pub returns-then-s-at : goal.returns-then-s-at
returns-then-s-at c = sym (sets-past c.args.s.now c.args.at (bytes_of 4 c.args.self) c.if-s-at.true)

pub returns-then-s-at-le2 : goal.returns-then-s-at-le2
returns-then-s-at-le2 c =
    let a = c.args in
    stored_short 2 a.s.now c.put.new.s a.at a.self _ refl c.put.ensures (omega arith)

pub returns : goal.returns
returns c =
    let a = c.args in
    stored 2 a.s.now c.put.new.s c.put-2.new.s a.at a.self _ _ refl refl c.put.ensures c.put-2.ensures
