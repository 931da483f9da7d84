use Rattle.number.proofs.Slice.{two_bytes}
use Rattle.number.specs.Bytes.{byte_at}
use Rattle.std.proofs.Common.{refl, arith}
use Rattle.number.proofs.U16Whole.whole.Goals as goal

pub returns : goal.returns
returns c = omega (arith, c.from_le_bytes.ensures, two_bytes (byte_at c.args.s.now) c.args.at _ _ refl refl)
