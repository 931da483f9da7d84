use lib.Ieee.{binary64}
use Rattle.float.proofs.Ops.{negated-turned}
use Rattle.float.proofs.U64Pattern.neg.Goals as goal

pub returns : goal.returns
returns c = negated-turned binary64 c.args.self c.ranges.self.fits
