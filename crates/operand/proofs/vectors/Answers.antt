use mathlib.Core.Path.{sym, ap, subst}
use Prim.Native.Nat.{ℕ, ◌/◌, ◌≤◌}
use Rattle.operand.proofs.Rows.{at_most_four}
use Rattle.operand.proofs.vectors.Goals as goal

pub returns : goal.returns
returns c =
    let a = c.args in
    let same = ap (λ (n : ℕ). 64 / n) c.stride_power.ensures.0 in
    (same, subst (λ (n : ℕ). n ≤ 4) (sym same) (at_most_four a.generation a.op))
