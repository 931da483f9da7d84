use Rattle.fms64.proofs.Meant.{no-terms, x-terms, y-terms}
use lib.ListN.{replicate}
use mathlib.Core.Path.{refl, sym, ◌∙◌}
use Rattle.fms64.proofs.terms.Goals as goal

pub returns-then-flag-2 : goal.returns-then-flag-2
returns-then-flag-2 c =
    let a = c.args in
    no-terms a.op a.state.now (replicate 8 0) (sym c.flag.ensures ∙ c.if-flag.true) (sym c.flag-then-flag.ensures ∙ c.if-flag-2.true) refl

pub returns-then-flag : goal.returns-then-flag
returns-then-flag c =
    let a = c.args in
    y-terms a.op a.state.now c.patterns.result (sym c.flag.ensures ∙ c.if-flag.true) (sym c.flag-then-flag.ensures ∙ c.if-flag-2.false)
    c.field.result c.field.ensures c.patterns.ensures

pub returns : goal.returns
returns c =
    let a = c.args in
    x-terms a.op a.state.now c.patterns-2.result (sym c.flag.ensures ∙ c.if-flag.false)
    c.field-2.result c.field-2.ensures c.patterns-2.ensures
