use Rattle.masks.proofs.Enabled.{only_none, only_is}
use Rattle.masks.proofs.Enabled.{only_none}
use Rattle.masks.proofs.only.Goals as goal

pub returns-then-n-ge64 : goal.returns-then-n-ge64
returns-then-n-ge64 c = only_none c.args.n c.if-n-ge64.true

pub returns : goal.returns
returns c = only_is c.args.n c.if-n-ge64.false
