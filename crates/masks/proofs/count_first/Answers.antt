use mathlib.Core.Path.{ap, sym, subst, ◌∙◌}
use Prim.Native.Nat.{ℕ, ◌≤◌}
use native.Mathlib.Omega.{arith}
use Rattle.isa.specs.Operand.{bit}
use Rattle.isa.specs.Effect.{count}
use Rattle.masks.proofs.Mask.{at_most_64, counted-all, counted-some}
use Rattle.masks.proofs.count_first.Goals as goal

pub returns-then-mask-eq-ALL : goal.returns-then-mask-eq-ALL
returns-then-mask-eq-ALL c =
    let lanes = c.min-lanes in
    let m = c.args.mask in
    let low : lanes.result ≤ 64 = omega (arith, lanes.ensures) in
    (counted-all m lanes.result low c.if-mask-eq-ALL.true ∙ ap (count (bit m)) (lanes.ensures ∙ at_most_64 c.args.n), low)

pub returns : goal.returns
returns c =
    let lanes = c.min-lanes in
    let m = c.args.mask in
    let some = counted-some m c.first.result lanes.result (omega (arith, lanes.ensures)) c.first.ensures in
    (c.from.ensures ∙ some.0 ∙ ap (count (bit m)) (lanes.ensures ∙ at_most_64 c.args.n), subst (λ (x : ℕ). x ≤ 64) (sym c.from.ensures) some.1)
