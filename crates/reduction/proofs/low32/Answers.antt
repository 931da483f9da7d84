use Rattle.reduction.proofs.Cases.{cast_fits, cast_is, low_fits}
use mathlib.Core.Path.{sym, ◌∙◌, subst}
use mir.Syntax.{w32}
use mir.Val.{SFits}
use Rattle.reduction.proofs.low32.Goals as goal

pub overflow_cast-result : goal.overflow_cast-result
overflow_cast-result c = cast_fits c.low.result (subst (SFits w32) (sym c.low.ensures) (low_fits c.args.to.below c.args.to.width))

pub returns : goal.returns
returns c = cast_is c.low.result (subst (SFits w32) (sym c.low.ensures) (low_fits c.args.to.below c.args.to.width)) ∙ c.low.ensures
