use mathlib.Core.Path.{sym}
use Prim.Native.Nat.{◌+◌, ◌-◌}
use borrow.Author.Tests.{lt-ltb, le-ltb}
use Rattle.number.proofs.Tests.{pick_true, pick_false}
use Rattle.text.proofs.hex_digit.Goals as goal

pub returns-then-d-lt10 : goal.returns-then-d-lt10
returns-then-d-lt10 c = sym (pick_true (48 + c.args.d) (97 + (c.args.d - 10)) (lt-ltb c.args.d 10 c.if-d-lt10.true))

pub returns-else-d-lt10 : goal.returns-else-d-lt10
returns-else-d-lt10 c = sym (pick_false (48 + c.args.d) (97 + (c.args.d - 10)) (le-ltb c.args.d 10 c.if-d-lt10.false))
