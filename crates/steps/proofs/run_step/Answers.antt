use Prim.Native.Nat.{◌+◌}
use native.Mathlib.Omega.{arith}
use Rattle.steps.proofs.Branches.{step_run}
use Rattle.steps.proofs.run_step.Goals as goal

pub returns : goal.returns
returns c =
    let a = c.args in
    let ran =
    step_run a.state.now a.out.now a.at (a.first + a.i) a.step (omega (arith, c.requires)) c.due-serial.result c.due-serial.ensures
    c.step-answer.new.state c.step-answer.ensures.0 c.step-answer.result c.step-answer.ensures.1
    c.step_line.new.out c.step_line.result c.step_line.ensures
    in record { state_after = ran.0; short = ran.1 }
