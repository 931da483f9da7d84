use native.Mathlib.Omega.{arith}
use Rattle.loads.proofs.Indices.{low_by}
use Rattle.loads.proofs.low_bits.Goals as goal

pub returns-then-four : goal.returns-then-four
returns-then-four c = (low_by c.if-four.true c.args.n, omega arith)

pub returns : goal.returns
returns c = (low_by c.if-four.false c.args.n, omega arith)
