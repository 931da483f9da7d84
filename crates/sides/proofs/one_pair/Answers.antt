use Prim.Native.Nat.{◌%◌}
use Rattle.sides.proofs.Lanes.{pair_is}
use Rattle.sides.proofs.one_pair.Goals as goal

pub returns : goal.returns
returns c = pair_is c.args.bytes.now (c.args.lane % 32) c.load.result c.load.ensures
