use Rattle.number.proofs.Tests.{pick_true, pick_false}
use Rattle.state.specs.Rows.{lane_sum}
use Rattle.std.proofs.Common.{sym, ◌∙◌}
use Rattle.state.proofs.summed.Goals as goal

pub returns-then-keep : goal.returns-then-keep
unfolding lane_sum
returns-then-keep g c = c.plus.ensures ∙ sym (pick_true _ _ c.if-keep.true)

pub returns-then-on : goal.returns-then-on
unfolding lane_sum
returns-then-on g c = sym (pick_false _ _ c.if-keep.false ∙ pick_true _ _ c.if-on.true)

pub returns-else-on : goal.returns-else-on
unfolding lane_sum
returns-else-on g c = sym (pick_false _ _ c.if-keep.false ∙ pick_false _ _ c.if-on.false)
