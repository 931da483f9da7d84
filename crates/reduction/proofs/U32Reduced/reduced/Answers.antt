use Rattle.std.proofs.Common.{◌∙◌, to_z-of_z, w64}
use borrow.Author.Rules.{sfits_of}
use Rattle.reduction.proofs.Cases.{reduce-is}
use Rattle.reduction.proofs.U32Reduced.reduced.Goals as goal

pub returns : goal.returns
returns c = c.wide.ensures ∙ reduce-is c.args.how 4 c.args.self _ (to_z-of_z {w = w64} (sfits_of c.read.type_inv) ∙ c.read.ensures)
