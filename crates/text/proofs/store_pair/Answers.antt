use mathlib.Core.Path.{refl, ap, ◌∙◌}
use lib.Seq.{sets}
use Rattle.text.proofs.Decimal.{pair-bytes}
use Rattle.text.proofs.store_pair.Goals as goal

pub returns : goal.returns
returns c = (c.store.ensures ∙ ap (sets c.args.out.now c.args.at) (pair-bytes c.args.n c.requires.0), refl)
