use Rattle.std.proofs.Common.{◌≡◌}
use Rattle.file.specs.File.{sound_in}
use Rattle.file.proofs.sound_records.Given as goal

abbrev pub invariant-loop-i : goal.invariant-loop-i
invariant-loop-i l = sound_in l.steps l.i ≡ l.i
