use mathlib.Core.Path.{refl}
use Rattle.masks.proofs.Bools.{lane-in_word}
use Rattle.masks.proofs.is_on.Goals as goal

pub returns : goal.returns
returns c = lane-in_word c.args.mask c.args.k _ refl
