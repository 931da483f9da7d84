use mathlib.Core.Path.{sym, ap, ◌∙◌}
use mathlib.Core.Bool.{Bool}
use Rattle.masks.specs.Mask.{mask_of}
use Rattle.masks.proofs.Mask.{mask_none}
use Rattle.masks.proofs.Enabled.{all-is}
use Rattle.masks.proofs.all_if.Goals as goal

pub returns-then-on : goal.returns-then-on
returns-then-on c = all-is _ (λ k h. c.if-on.true)

pub returns-else-on : goal.returns-else-on
returns-else-on c = mask_none 64 ∙ ap (λ (b : Bool). mask_of (λ k. b) 64) (sym c.if-on.false)
