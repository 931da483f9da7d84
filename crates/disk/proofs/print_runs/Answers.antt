use mathlib.Core.Path.{◌≡◌, subst}
use Prim.Native.Nat.{ℕ, ◌-◌}
use native.Mathlib.Omega.{arith}
use Rattle.trace.specs.Reading.{Told}
use Rattle.disk.proofs.Looked.{run-some}
use Rattle.disk.proofs.Turns.{turned_on, told-next}
use Rattle.disk.proofs.print_runs.Goals as goal

pub loop-i-smaller : goal.loop-i-smaller
loop-i-smaller c =
    let l = c.loop-i in
    let m = c.run_of-m.result in
    let some = run-some (c.args.n - l.i) m c.run_of-m.ensures.0 (omega (arith, c.loop-i-test.true)) in
    omega (arith, c.loop-i-test.true, some)

pub loop-i-preserved : goal.loop-i-preserved
loop-i-preserved c =
    let a = c.args in
    let l = c.loop-i in
    let m = c.run_of-m.result in
    let next = c.in-Continue.next in
    let on = turned_on a.head.now a.n c.in_ok-next.field-0 next _ _ l.at c.in-Continue.is c.in_ok-next.ensures in
    let some = run-some (a.n - l.i) m c.run_of-m.ensures.0 (omega (arith, c.loop-i-test.true)) in (
      omega (arith, c.run_of-m.ensures.2, l.invariant.0),
      told-next a.head.now a.n l.i m (a.n - l.i) _ next c.run_of-m.ensures.0 on.0,
      omega (arith, on.1, l.invariant.2, some, c.run_of-m.ensures.0),
    )

pub returns : goal.returns
returns c =
    let inv = c.loop-i.invariant in
    let all : c.loop-i.i ≡ c.args.n = omega (arith, inv.0, c.loop-i-test.false) in (
      subst (λ (k : ℕ). Told c.args.head.now c.args.n k c.loop-i.state c.loop-i.at) all inv.1,
      omega (arith, inv.2, all, c.requires.2),
    )
