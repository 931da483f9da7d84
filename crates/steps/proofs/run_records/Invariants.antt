use Rattle.std.proofs.Common.{◌≡◌}
use Rattle.file.specs.File.{cursor}
use Rattle.steps.proofs.Turns.{Ran}
use Rattle.steps.proofs.run_records.Given as goal

-- The reader stands at record i of the bytes that were lent, and i of them were run.
abbrev pub invariant-loop-i : goal.invariant-loop-i
invariant-loop-i l = record {
  bytes : l.reader.steps.now ≡ l.steps;
  place : l.reader.cursor ≡ cursor l.i l.n;
  ran : Ran l.steps l.fn.state l.fn.out l.first l.i l.state l.out l.at;
}
