use mathlib.Core.Path.{◌∙◌}
use borrow.Author.Tests.{ne_eqb}
use Rattle.file.proofs.Paddings.{pair_set, by-quartet}
use Rattle.file.proofs.padding_clear.Goals as goal

pub returns-then-get-eq0 : goal.returns-then-get-eq0
returns-then-get-eq0 c =
    let a = c.args in
    let quartet = c.get-then-get-eq0 in
    by-quartet a.steps.now a.i c.get.result quartet.result c.get.ensures c.if-get-eq0.true quartet.ensures

pub returns-else-get-eq0 : goal.returns-else-get-eq0
returns-else-get-eq0 c =
    let a = c.args in
    ne_eqb c.get.result 0 c.if-get-eq0.false ∙ pair_set a.steps.now a.i c.get.result c.get.ensures c.if-get-eq0.false
