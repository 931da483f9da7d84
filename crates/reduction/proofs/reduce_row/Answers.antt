use Rattle.reduction.proofs.Cases.{row-outside}
use mathlib.Core.Path.{sym, ◌∙◌}
use lib.ListN.{length}
use Rattle.number.proofs.Tests.{pick_true, pick_false}
use borrow.Author.Tests.{eq-eqb, ne_eqb}
use Rattle.reduction.proofs.reduce_row.Goals as goal

pub returns-then-state-ne5120 : goal.returns-then-state-ne5120
returns-then-state-ne5120 c = sym (pick_false _ _ (ne_eqb (length c.args.state.now) 5120 c.if-state-ne5120.true))

pub returns-then-row-ge64 : goal.returns-then-row-ge64
returns-then-row-ge64 c =
    let a = c.args in
    row-outside a.b a.row a.on.now a.how a.state.now c.if-row-ge64.true ∙ sym (pick_true _ _ (eq-eqb (length a.state.now) 5120 c.if-state-ne5120.false))
