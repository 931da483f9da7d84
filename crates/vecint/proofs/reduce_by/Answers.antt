use Rattle.std.proofs.Common.{◌≡◌, ℕ, sym, ◌∙◌}
use Rattle.std.specs.Prelude.{Option, Some, None}
use Rattle.number.proofs.Tests.{pick_true, pick_false}
use Rattle.isa.specs.Operand.{bit}
use Rattle.isa.specs.Vecint as Vecint
use Rattle.reduction.specs.declared.Range.{Range}
use Rattle.vecint.proofs.reduce_by.Goals as goal

abbrev range : ℕ → Option Range
range op = Some record { below = bit op 26; width = (Vecint.reduction op).saturation }

pub returns-then-flag : goal.returns-then-flag
returns-then-flag c =
    let named : Some record { below = c.flag.result; width = c.saturation_width.result } ≡ range c.args.op =
    λ j. Some record { below = c.flag.ensures j; width = c.saturation_width.ensures.0 j }
    in
    λ i. record {
      clears = c.overrides.ensures i;
      sign = c.flag-2.ensures i;
      rounds = c.flag-3.ensures i;
      shift = c.vecint_shift.ensures.0 i;
      clamp = (named ∙ sym (pick_true (range c.args.op) None (sym c.flag-4.ensures ∙ c.if-flag.true))) i;
    }

pub returns-else-flag : goal.returns-else-flag
returns-else-flag c =
    λ i. record {
      clears = c.overrides.ensures i;
      sign = c.flag-2.ensures i;
      rounds = c.flag-3.ensures i;
      shift = c.vecint_shift.ensures.0 i;
      clamp = sym (pick_false (range c.args.op) None (sym c.flag-4.ensures ∙ c.if-flag.false)) i;
    }
