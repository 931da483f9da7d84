use Rattle.number.proofs.Slice.{sets-past, stored}
use Rattle.number.specs.Bytes.{bytes_of}
use Rattle.std.proofs.Common.{ℕ, List, get_or, sym, ap, ◌∙◌, arith}
use Rattle.number.proofs.U16Lane.put.Goals as goal

pub returns-then-s-at : goal.returns-then-s-at
returns-then-s-at c = sym (sets-past c.args.s.now c.args.at (bytes_of 2 c.args.self) c.if-s-at.true)

pub returns : goal.returns
returns c =
    let a = c.args in
    stored 1 a.s.now c.put.new.s c.put-2.new.s a.at a.self _ _
    (ap (λ (bs : List ℕ). get_or bs 0 0) c.to_le_bytes.ensures)
    (ap (λ (bs : List ℕ). get_or bs 1 0) c.to_le_bytes.ensures ∙ omega arith)
    c.put.ensures c.put-2.ensures
