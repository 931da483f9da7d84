use mathlib.Core.Path.{◌∙◌}
use Rattle.disk.proofs.Looked.{looked-run}
use Rattle.disk.proofs.check_run.Goals as goal

pub returns : goal.returns
returns c = looked-run c.fill.new.buffer c.args.m (c.fill.auto.buffer ∙ c.requires) c.sound_records.result c.sound_records.ensures
