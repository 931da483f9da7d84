use Rattle.fms64.proofs.Whole.{on-registers}
use mathlib.Core.Path.{sym, ◌∙◌}
use Rattle.fms64.proofs.step.Goals as goal

pub vector_step-requires : goal.vector_step-requires
vector_step-requires c = sym c.flag.ensures ∙ c.if-flag.true

pub returns-then-flag : goal.returns-then-flag
returns-then-flag c =
    on-registers c.args.op c.args.state.now c.vector_step.new.state c.vector_step.result c.in-Some.ensures.cases.long
    c.in-Some.registers.now c.in-Some.ensures.cases.same c.vector_step.ensures

pub matrix_step-requires : goal.matrix_step-requires
matrix_step-requires c = sym c.flag.ensures ∙ c.if-flag.false

pub returns : goal.returns
returns c =
    on-registers c.args.op c.args.state.now c.matrix_step.new.state c.matrix_step.result c.in-Some.ensures.cases.long
    c.in-Some.registers.now c.in-Some.ensures.cases.same c.matrix_step.ensures
