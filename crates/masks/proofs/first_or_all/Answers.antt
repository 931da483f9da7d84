use mathlib.Core.Path.{ap}
use mathlib.Core.Bool.{Bool, ◌||◌}
use borrow.Author.Tests.{eq-eqb}
use Rattle.isa.specs.Enable as Enable
use Rattle.masks.proofs.Enabled.{all-is}
use Rattle.masks.proofs.first_or_all.Goals as goal

pub returns-then-n-eq0 : goal.returns-then-n-eq0
returns-then-n-eq0 c = all-is _ (λ k h. ap (λ (b : Bool). b || Enable.first c.args.n k) (eq-eqb _ _ c.if-n-eq0.true))
