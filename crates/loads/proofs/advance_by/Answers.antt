use Rattle.isa.specs.Vecint as Vecint
use native.Mathlib.Omega.{arith}
use Rattle.loads.proofs.Indices.{advanced-by}
use Rattle.loads.proofs.advance_by.Goals as goal

pub returns-then-wide : goal.returns-then-wide
unfolding Vecint.advance
returns-then-wide c = (advanced-by c.if-four.true c.if-wide.true, omega arith)

pub returns-else-wide : goal.returns-else-wide
unfolding Vecint.advance
returns-else-wide c = (advanced-by c.if-four.true c.if-wide.false, omega arith)

pub returns-then-wide-2 : goal.returns-then-wide-2
unfolding Vecint.advance
returns-then-wide-2 c = (advanced-by c.if-four.false c.if-wide-2.true, omega arith)

pub returns-else-wide-2 : goal.returns-else-wide-2
unfolding Vecint.advance
returns-else-wide-2 c = (advanced-by c.if-four.false c.if-wide-2.false, omega arith)
