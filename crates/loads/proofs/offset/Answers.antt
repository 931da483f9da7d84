use mathlib.Core.Path.{sym, ap, ◌∙◌}
use Prim.Native.Nat.{ℕ, ◌+◌, ◌*◌}
use native.Mathlib.Nat.{mul-le-mul_right}
use native.Mathlib.Omega.{arith}
use Rattle.number.proofs.Tests.{pick_true, pick_false}
use Rattle.loads.specs.Loads.{first_of}
use Rattle.loads.proofs.offset.Goals as goal

pub returns-then-repeats : goal.returns-then-repeats
returns-then-repeats c =
    let a = c.args in
    c.first_offset-first.ensures.0
    ∙ sym (ap (λ (x : ℕ). first_of a.y a.op + x) (pick_true _ _ (sym c.repeats.ensures ∙ c.if-repeats.true)) ∙ omega arith)

pub overflow_mul-result : goal.overflow_mul-result
overflow_mul-result c = omega (arith, mul-le-mul_right c.args.v c.requires.0)

pub overflow_add-result : goal.overflow_add-result
overflow_add-result c =
    omega (arith, c.first_offset-first.ensures.1, mul-le-mul_right c.args.v c.requires.0)

pub returns : goal.returns
returns c =
    let a = c.args in
    ap (λ (x : ℕ). x + a.step * a.v) c.first_offset-first.ensures.0
    ∙ sym (ap (λ (x : ℕ). first_of a.y a.op + x) (pick_false _ _ (sym c.repeats.ensures ∙ c.if-repeats.false)))
