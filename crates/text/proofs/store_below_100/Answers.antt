use mathlib.Core.Path.{refl}
use Prim.Native.Nat.{◌+◌}
use native.Mathlib.Omega.{arith}
use lib.ListN.{set}
use Rattle.text.proofs.Decimal.{stored_few, stored_pair}
use Rattle.text.proofs.store_below_100.Goals as goal

pub returns-then-n-lt10 : goal.returns-then-n-lt10
returns-then-n-lt10 c =
    let s = c.args.out.now in
    let n = c.args.n in
    record {
      stored = stored_few s (set s c.args.at (48 + n)) c.args.at n (c.args.at + 1) c.if-n-lt10.true (refl, refl);
      short = omega arith;
    }

pub returns : goal.returns
returns c =
    record {
      stored = stored_pair c.args.out.now c.store_pair.new.out c.args.at c.args.n c.store_pair.result
          c.if-n-lt10.false c.requires.0 c.store_pair.ensures;
      short = omega (arith, c.store_pair.ensures.1);
    }
