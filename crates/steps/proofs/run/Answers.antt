use Rattle.file.specs.File.{records_in}
use Rattle.steps.proofs.Turns.{ran-records}
use Rattle.steps.proofs.run.Goals as goal

pub returns : goal.returns
returns c =
    let count = c.record_count in
    let a = c.args in
    let ran =
    ran-records a.steps.now a.state.now a.out.now a.first
    count.result (records_in a.steps.now) count.ensures.0 count.ensures.1 c.run_records.ensures
    in record { state_after = ran.0; short = ran.1 }
