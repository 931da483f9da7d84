use Rattle.number.proofs.Slice.{stored}
use Rattle.std.proofs.Common.{refl}
use Rattle.number.proofs.U64Whole.keep.Goals as goal

pub returns : goal.returns
returns c =
    let a = c.args in
    stored 4 a.s.now c.keep.new.s c.keep-2.new.s a.at a.self _ _ refl refl c.keep.ensures c.keep-2.ensures
