use native.Mathlib.Omega.{arith}
use Rattle.text.proofs.Decimal.{stored_hundreds}
use Rattle.text.proofs.store_decimal.Goals as goal

pub returns : goal.returns
returns c =
    let front = c.store_below_10000-next in
    let pair = c.store_pair in record {
      stored = stored_hundreds c.args.out.now front.new.out pair.new.out c.args.at front.result c.args.n pair.result
          (omega (arith, c.if-n-lt10000.false)) front.ensures.stored pair.ensures;
      short = omega (arith, front.ensures.short, pair.ensures.1);
    }
