use Rattle.text.proofs.Decimal.{stored_few, stored_many}
use Rattle.text.proofs.+put_digits.Goals as goal

pub returns-then-n-lt10-clause-stored : goal.returns-then-n-lt10-clause-stored
returns-then-n-lt10-clause-stored t c =
    let a = c.args in
    stored_few a.out.now c.put.new.out a.at a.n c.put.result c.if-n-lt10.true c.put.ensures

pub returns : goal.returns
returns t c =
    let a = c.args in
    let front = c.put_digits-next in
    let last = c.put-2 in
    let whole =
    stored_many a.out.now front.new.out last.new.out a.at front.result a.n last.result
    c.if-n-lt10.false c.ranges.n.fits front.ensures.stored last.ensures
    in
    record { stored = whole.0; short = whole.1 }
