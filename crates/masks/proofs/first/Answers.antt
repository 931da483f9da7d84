use Rattle.masks.proofs.Enabled.{all_first, first-is}
use Rattle.masks.proofs.Enabled.{all_first}
use Rattle.masks.proofs.first.Goals as goal

pub returns-then-n-ge64 : goal.returns-then-n-ge64
returns-then-n-ge64 c = all_first c.args.n c.if-n-ge64.true

pub returns : goal.returns
returns c = first-is c.args.n c.if-n-ge64.false
