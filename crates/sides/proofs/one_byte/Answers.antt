use Prim.Native.Nat.{◌%◌}
use Rattle.sides.proofs.Lanes.{lane_byte}
use Rattle.sides.proofs.one_byte.Goals as goal

pub returns : goal.returns
returns c = lane_byte c.args.sign c.args.bytes.now (c.args.lane % 64) c.extended.result c.extended.ensures
