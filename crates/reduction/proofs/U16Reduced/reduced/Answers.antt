use Rattle.std.proofs.Common.{◌∙◌, to_z-of_z, w64}
use borrow.Author.Rules.{sfits_of}
use Rattle.reduction.proofs.Cases.{reduce-is}
use Rattle.reduction.proofs.U16Reduced.reduced.Goals as goal

pub returns : goal.returns
returns c = c.narrow.ensures ∙ reduce-is c.args.how 2 c.args.self _ (to_z-of_z {w = w64} (sfits_of c.read.type_inv) ∙ c.read.ensures)
