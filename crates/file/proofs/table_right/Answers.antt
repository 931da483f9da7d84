use mathlib.Core.Path.{sym, ◌∙◌}
use native.Mathlib.Omega.{arith}
use Rattle.file.proofs.Contents.{length_most, sections-most}
use Rattle.file.proofs.table_right.Goals as goal

pub overflow_cast-steps_end : goal.overflow_cast-steps_end
overflow_cast-steps_end c =
    let file = c.args.file.now in
    let few = sections-most file (sym c.sections_right.ensures ∙ c.if-not-sections_right.false) in
    omega (arith, c.steps_end.ensures.0, length_most file, few)
