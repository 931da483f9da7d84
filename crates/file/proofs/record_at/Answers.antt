use mathlib.Core.Path.{ap, ◌∙◌}
use Rattle.file.proofs.Records.{call-part}
use Rattle.file.proofs.record_at.Goals as goal

pub returns : goal.returns
returns c =
    let a = c.args in
    c.record_in-2.ensures ∙ call-part a.steps.now a.i c.if-steps-end.false
