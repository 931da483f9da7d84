use mathlib.Core.Path.{refl, ◌∙◌}
use Rattle.masks.proofs.Enabled.{all-is, even_is, by_value}
use Rattle.masks.proofs.by_parity.Goals as goal

pub returns-in-0 : goal.returns-in-0
returns-in-0 c =
    let a = c.args in
    all-is _ (λ k h. refl) ∙ by_value a.n 0 a.other a.halved c.in-0.is

pub returns-in-2 : goal.returns-in-2
returns-in-2 c =
    let a = c.args in
    even_is a.halved c.odd-in-2.result c.odd-in-2.ensures ∙ by_value a.n 2 a.other a.halved c.in-2.is
