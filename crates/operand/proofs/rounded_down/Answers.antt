use native.Mathlib.Omega.{arith}
use Rattle.operand.proofs.Rows.{whole_row}
use Rattle.operand.proofs.rounded_down.Goals as goal

pub returns-in_default : goal.returns-in_default
returns-in_default c =
    let rows = c.rows_each in
    (whole_row c.args.op c.args.row rows.result rows.ensures.0 (λ e. omega (arith, e)) (λ e. omega (arith, e)), omega arith)
