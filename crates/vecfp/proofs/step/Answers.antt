use mathlib.Core.Path.{sym, ap, ◌∙◌}
use lib.ListN.{length}
use borrow.Author.Tests.{eq-eqb}
use Rattle.number.proofs.Tests.{pick_true}
use Rattle.isa.specs.Effect.{applied}
use Rattle.isa.specs.Vecfp as Vecfp
use Rattle.vecfp.proofs.step.Goals as goal

pub returns : goal.returns
returns c =
    let a = c.args in
    let right = eq-eqb (length a.state.now) 5120 c.in-Some.ensures.cases.long in (
      c.each_vector.ensures ∙ ap (applied (Vecfp.vecfp a.generation a.op)) c.in-Some.ensures.cases.same ∙ sym (pick_true _ _ right),
      c.bytes_enabled.ensures ∙ sym (pick_true _ _ right),
    )
