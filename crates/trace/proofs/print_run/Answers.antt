use native.Mathlib.Omega.{arith}
use Rattle.file.proofs.Sound.{sound-most}
use Rattle.trace.proofs.Room.{lent_length, lent-calls, runs_on, runs-stop, refused-stored}
use Rattle.trace.proofs.print_run.Goals as goal

pub overflow_mul-k : goal.overflow_mul-k
overflow_mul-k c =
    let a = c.args in
    omega (arith, c.sound_records-k.ensures, sound-most a.part.now c.run_of-m.result, c.run_of-m.ensures.1)

pub slice_bounds-run-end : goal.slice_bounds-run-end
slice_bounds-run-end c =
    let a = c.args in
    lent_length c.run_of-m.result a.part.now c.sound_records-k.result c.sound_records-k.ensures

pub returns-then-k-m : goal.returns-then-k-m
returns-then-k-m c =
    let a = c.args in
    let m = c.run_of-m.result in
    let k = c.sound_records-k.result in
    let lent = lent-calls m a.part.now k c.sound_records-k.ensures c.run_of-m.ensures.1 in
    runs_on m a.left a.first c.run_of-m.ensures.0 a.state.now a.part.now a.out.now
    c.run-at.new.state c.run-at.new.out k c.run-at.result _
    c.sound_records-k.ensures lent c.run-at.ensures.state_after.0 c.run-at.ensures.state_after.1 c.run-at.ensures.state_after.2 c.if-k-m.true

pub overflow_cast-k : goal.overflow_cast-k
overflow_cast-k c =
    let a = c.args in
    omega (arith, c.sound_records-k.ensures, sound-most a.part.now c.run_of-m.result, c.run_of-m.ensures.1)

pub returns : goal.returns
returns c =
    let a = c.args in
    let m = c.run_of-m.result in
    let k = c.sound_records-k.result in
    let lent = lent-calls m a.part.now k c.sound_records-k.ensures c.run_of-m.ensures.1 in
    let out = c.run-at.new.out in
    let refusal = c.fault_at.result in
    let stored = refused-stored out c.refused_line.new.out c.run-at.result c.from-number.result c.refused_line.result refusal
    c.from-number.ensures.0 c.refused_line.ensures
    in
    runs-stop m a.left a.first c.run_of-m.ensures.0 a.state.now a.part.now a.out.now
    c.run-at.new.state out k c.run-at.result _
    c.sound_records-k.ensures lent c.run-at.ensures.state_after.0 c.run-at.ensures.state_after.1 c.run-at.ensures.state_after.2 c.if-k-m.false
    refusal c.fault_at.ensures c.refused_line.new.out c.refused_line.result stored
