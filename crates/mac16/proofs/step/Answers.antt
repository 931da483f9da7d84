use mathlib.Core.Path.{sym, ◌∙◌}
use Rattle.number.proofs.Tests.{pick_true, pick_false}
use Rattle.isa.specs.Mac16 as Mac16
use Rattle.mac16.proofs.Whole.{by_form}
use Rattle.mac16.proofs.step.Goals as goal

pub returns-then-flag : goal.returns-then-flag
returns-then-flag c =
    let a = c.args in
    by_form a.op a.state.now c.vector_step.new.state c.vector_step.result c.in-Some.ensures.cases.long (λ p. (c.slice_known-1.given p).fits)
    c.in-Some.registers.now c.in-Some.ensures.cases.same Mac16.vector
    (pick_true _ _ (sym c.flag.ensures ∙ c.if-flag.true)) c.vector_step.ensures

pub returns-then-flag-2 : goal.returns-then-flag-2
returns-then-flag-2 c =
    let a = c.args in
    by_form a.op a.state.now c.matrix32_step.new.state c.matrix32_step.result c.in-Some.ensures.cases.long (λ p. (c.slice_known-1.given p).fits)
    c.in-Some.registers.now c.in-Some.ensures.cases.same
    Mac16.matrix32 (pick_false _ _ (sym c.flag.ensures ∙ c.if-flag.false) ∙ pick_true _ _ (sym c.flag-2.ensures ∙ c.if-flag-2.true))
    c.matrix32_step.ensures

pub returns : goal.returns
returns c =
    let a = c.args in
    by_form a.op a.state.now c.matrix16_step.new.state c.matrix16_step.result c.in-Some.ensures.cases.long (λ p. (c.slice_known-1.given p).fits)
    c.in-Some.registers.now c.in-Some.ensures.cases.same
    Mac16.matrix16 (pick_false _ _ (sym c.flag.ensures ∙ c.if-flag.false) ∙ pick_false _ _ (sym c.flag-2.ensures ∙ c.if-flag-2.false))
    c.matrix16_step.ensures
