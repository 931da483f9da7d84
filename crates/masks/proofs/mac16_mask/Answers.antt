use mathlib.Core.Path.{◌∙◌}
use native.Mathlib.Omega.{arith}
use Rattle.isa.specs.Enable.{mac16_enables}
use Rattle.masks.proofs.Enabled.{mac16-mode, mac16-mode_3}
use Rattle.masks.proofs.mac16_mask.Goals as goal

pub returns-in-0 : goal.returns-in-0
unfolding mac16_enables
returns-in-0 c = c.by_parity.ensures ∙ mac16-mode c.args.lanes c.args.n c.in-0.is

pub returns-in-1 : goal.returns-in-1
unfolding mac16_enables
returns-in-1 c = c.only.ensures ∙ mac16-mode c.args.lanes c.args.n c.in-1.is

pub returns-in-2 : goal.returns-in-2
unfolding mac16_enables
returns-in-2 c = c.first_or_all.ensures ∙ mac16-mode c.args.lanes c.args.n c.in-2.is

pub returns-in_default : goal.returns-in_default
returns-in_default c = c.last_or_all.ensures ∙ mac16-mode_3 c.args.lanes c.args.mode c.args.n (omega arith)
