use lib.Ieee.{binary32}
use Rattle.float.proofs.Ops.{negated-turned}
use Rattle.float.proofs.U32Pattern.neg.Goals as goal

pub returns : goal.returns
returns c = negated-turned binary32 c.args.self c.ranges.self.fits
