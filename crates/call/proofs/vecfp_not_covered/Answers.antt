use Rattle.std.proofs.Common.{rules}
use Rattle.isa.specs.Vecfp as Vecfp
use Rattle.call.proofs.vecfp_not_covered.Goals as goal

pub returns-then-not-covered_width : goal.returns-then-not-covered_width
unfolding Vecfp.not_covered
returns-then-not-covered_width c = search rules

pub returns-else-not-covered_width : goal.returns-else-not-covered_width
unfolding Vecfp.not_covered
returns-else-not-covered_width c = search rules
