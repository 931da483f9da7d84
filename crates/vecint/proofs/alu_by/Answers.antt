use Rattle.std.proofs.Common.{not, eqb, sym, ap, ◌∙◌}
use Rattle.number.proofs.Tests.{pick_true, pick_false}
use Rattle.vecint.specs.Modes.{sums_in, y_alone, negates_in, alu_by}
use Rattle.vecint.proofs.alu_by.Goals as goal

pub returns-then-overrides : goal.returns-then-overrides
unfolding alu_by
returns-then-overrides c = sym (pick_true _ _ (sym c.overrides.ensures ∙ c.if-overrides.true))

pub returns : goal.returns
unfolding alu_by
returns c =
    (λ i. record {
      sums = (c.sums_in.ensures ∙ ap sums_in c.alu_mode-mode.ensures.0) i;
      skipx = (c.y_alone.ensures ∙ ap y_alone c.alu_mode-mode.ensures.0) i;
      skipy = eqb (c.alu_mode-mode.ensures.0 i) 11;
      negates =
          (c.negates_in.ensures ∙ ap negates_in c.alu_mode-mode.ensures.0) i;
      keeps = not (eqb (c.alu_mode-mode.ensures.0 i) 10);
      clamps =
          c.saturates.ensures i;
    }) ∙ sym (pick_false _ _ (sym c.overrides.ensures ∙ c.if-overrides.false))
