use mathlib.Core.Path.{sym, ◌∙◌}
use borrow.Author.Tests.{eq-eqb}
use Rattle.isa.specs.Vecint as Vecint
use Rattle.operand.proofs.Branches.{and_on, and_off, first-of-two, second-of-two}
use Rattle.operand.proofs.broadcasts.Goals as goal

pub returns-then-mode-a : goal.returns-then-mode-a
unfolding Vecint.broadcasts
returns-then-mode-a c =
    and_on _ _ (sym c.if-several.ensures) (eq-eqb _ _ c.if-mode-a.true ∙ first-of-two c.args.a c.args.b c.field-mode.ensures c.if-mode-a.true)

pub returns-else-mode-a : goal.returns-else-mode-a
unfolding Vecint.broadcasts
returns-else-mode-a c = and_on _ _ (sym c.if-several.ensures) (second-of-two c.args.a c.args.b c.field-mode.ensures c.if-mode-a.false)

pub returns-else-several : goal.returns-else-several
unfolding Vecint.broadcasts
returns-else-several c = c.if-several.false ∙ and_off _ (sym c.if-several.ensures)
