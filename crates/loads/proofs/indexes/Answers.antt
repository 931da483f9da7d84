use mathlib.Core.Path.{sym, ap, ◌∙◌}
use mathlib.Core.Bool.{not}
use Rattle.loads.proofs.Indices.{not_indexed, indexed-y, indexed-x}
use Rattle.loads.proofs.indexes.Goals as goal

pub returns-then-y : goal.returns-then-y
returns-then-y c =
    c.flag-then-y.ensures ∙ indexed-y c.args.op (sym c.flag.ensures ∙ c.if-flag.true) c.if-y.true

pub returns-then-flag : goal.returns-then-flag
returns-then-flag c =
    ap not c.flag-then-flag.ensures ∙ indexed-x c.args.op (sym c.flag.ensures ∙ c.if-flag.true) c.if-y.false

pub returns : goal.returns
returns c = not_indexed c.args.y c.args.op (sym c.flag.ensures ∙ c.if-flag.false)
