use mathlib.Core.Path.{◌≡◌}
use mathlib.Core.Bool.{false, ◌&&◌}
use native.Mathlib.Omega.{arith}
use Rattle.disk.proofs.Looked.{looked_none, looked-next, seen-some}
use Rattle.disk.proofs.check_runs.Goals as goal
use Rattle.disk.proofs.check_runs.Goals.{then-clear, else-clear}

pub loop-i-init : goal.loop-i-init
loop-i-init c = (omega arith, looked_none)

pub loop-i-preserved : goal.loop-i-preserved
loop-i-preserved c =
    let clear = c.loop-i.clear in
    let sound = c.in-Some.sound in
    let told : c.if-clear.clear ≡ clear && sound = elim c.if-clear.branch [
      | then-clear w ↦ let e : clear && sound ≡ sound = (λ t. w.if-clear.true t && sound) in let f = w.clear-is in cc e
      | else-clear w ↦ let e : clear && sound ≡ false = (λ t. w.if-clear.false t && sound) in let f = w.clear-is in let g = w.if-clear.false in cc e
    ] in (
      omega (arith, c.loop-i.invariant.0, c.run_of-m.ensures.2),
      looked-next c.loop-i.i c.run_of-m.result clear c.loop-i.invariant.1 sound c.if-clear.clear
          (seen-some c.in_ok-sound.field-0 sound c.run_of-m.result c.in-Some.is c.in_ok-sound.ensures) told,
    )
