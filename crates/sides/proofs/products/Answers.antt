use Rattle.std.proofs.Common.{rules, ◌%◌, true, false, sym, ◌∙◌}
use Rattle.sides.specs.Sides.{kept_terms, values_of}
use Rattle.sides.proofs.Kept.{kept-each, kept-swap}
use Rattle.sides.proofs.products.Goals as goal

pub returns-in-true-true : goal.returns-in-true-true
returns-in-true-true c =
    let a = c.args in
    kept-each a.n false a.shift.rounds (a.shift.by % 32) true true a.xs.now a.ys.now c.terms.result c.terms.ensures (λ x y r k. search rules)
    ∙ (λ t. kept_terms a.n false a.shift.rounds (a.shift.by % 32) (values_of (sym c.in-true-true.is-0 t) a.xs.now)
    (values_of (sym c.in-true-true.is-1 t) a.ys.now))

pub returns-in-true-false : goal.returns-in-true-false
returns-in-true-false c =
    let a = c.args in
    kept-each a.n false a.shift.rounds (a.shift.by % 32) true false a.xs.now a.ys.now _ c.terms-in-true-false.ensures (λ x y r k. search rules)
    ∙ (λ t. kept_terms a.n false a.shift.rounds (a.shift.by % 32) (values_of (sym c.in-true-false.is-0 t) a.xs.now)
    (values_of (sym c.in-true-false.is-1 t) a.ys.now))

pub returns-in-false-true : goal.returns-in-false-true
returns-in-false-true c =
    let a = c.args in
    kept-each a.n false a.shift.rounds (a.shift.by % 32) true false a.ys.now a.xs.now _ c.terms-in-false-true.ensures (λ x y r k. search rules)
    ∙ kept-swap a.n a.shift.rounds (a.shift.by % 32) (values_of false a.xs.now) (values_of true a.ys.now)
    ∙ (λ t. kept_terms a.n false a.shift.rounds (a.shift.by % 32) (values_of (sym c.in-false-true.is-0 t) a.xs.now)
    (values_of (sym c.in-false-true.is-1 t) a.ys.now))

pub returns-in-false-false : goal.returns-in-false-false
returns-in-false-false c =
    let a = c.args in
    kept-each a.n false a.shift.rounds (a.shift.by % 32) false false a.xs.now a.ys.now _ c.terms-in-false-false.ensures (λ x y r k. search rules)
    ∙ (λ t. kept_terms a.n false a.shift.rounds (a.shift.by % 32) (values_of (sym c.in-false-false.is-0 t) a.xs.now)
    (values_of (sym c.in-false-false.is-1 t) a.ys.now))
