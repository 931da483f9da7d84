use native.Mathlib.Omega.{arith}
use Rattle.loads.proofs.Indices.{first_by}
use Rattle.loads.proofs.first_bit.Goals as goal

pub returns-then-four : goal.returns-then-four
returns-then-four c = (first_by c.if-four.true c.args.k, omega arith)

pub returns : goal.returns
returns c = (first_by c.if-four.false c.args.k, omega arith)
