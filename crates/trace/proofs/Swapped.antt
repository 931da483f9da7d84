-- The steps of an accepted file that are not yet consumed are a list of calls as demand 3 has them.
-- Assumes nothing.
use Rattle.isa.proofs.Rearranged.{rearranged}
use Rattle.file.specs.File.{resumed_from}
use Rattle.trace.specs.Trace.{remaining, FileRearranged}

pub file_rearranged : FileRearranged
file_rearranged file n opened chain allowed = rearranged (remaining file) (resumed_from file) chain allowed
