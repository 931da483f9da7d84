use mathlib.Core.Path.{sym, ◌∙◌}
use native.Mathlib.Omega.{arith}
use Rattle.file.proofs.Sound.{sound_none, sound-next, sound-stop, sound-all}
use Rattle.file.proofs.sound_records.Goals as goal

pub loop-i-init : goal.loop-i-init
loop-i-init c = sound_none c.args.steps.now

pub returns-then-not-is_sound : goal.returns-then-not-is_sound
returns-then-not-is_sound c =
    let a = c.args in
    sound-stop a.steps.now a.n c.loop-i.i c.loop-i-test.true c.loop-i.invariant (sym c.is_sound.ensures ∙ c.if-not-is_sound.true)

pub loop-i-preserved : goal.loop-i-preserved
loop-i-preserved c = sound-next c.args.steps.now c.loop-i.i c.loop-i.invariant (sym c.is_sound.ensures ∙ c.if-not-is_sound.false)

pub returns : goal.returns
returns c = sound-all c.args.steps.now c.args.n c.loop-i.i (omega arith) c.loop-i-test.false c.loop-i.invariant
