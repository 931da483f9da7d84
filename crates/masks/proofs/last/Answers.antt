use Rattle.masks.proofs.Enabled.{all-last, last-is}
use Rattle.masks.proofs.last.Goals as goal

pub returns-then-lanes-n : goal.returns-then-lanes-n
returns-then-lanes-n c = all-last c.args.lanes c.args.n c.if-lanes-n.true

pub returns : goal.returns
returns c =
    let a = c.args in
    last-is a.lanes a.n c.first.result c.if-lanes-n.false c.first.ensures
