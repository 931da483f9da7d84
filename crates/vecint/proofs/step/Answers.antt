use Rattle.std.proofs.Common.{◌||◌, length, sym, ◌∙◌, arith, eq-eqb, ne_eqb}
use Rattle.number.proofs.Tests.{pick_true, pick_false}
use Rattle.isa.specs.Vecint as Vecint
use Rattle.masks.proofs.Bools.{lanes-of_rule}
use Rattle.vecint.proofs.step.Goals as goal

pub returns-then-state-ne5120 : goal.returns-then-state-ne5120
returns-then-state-ne5120 c =
    let other = ne_eqb (length c.args.state.now) 5120 c.if-state-ne5120.true in
    (sym (pick_false _ _ other), sym (pick_false _ _ other))

pub each_vector-requires : goal.each_vector-requires
each_vector-requires c =
    let a = c.args in (
      c.if-state-ne5120.false,
      lanes-of_rule (λ k. Vecint.several a.generation a.op || Vecint.masked a.op k) 64 64 c.vecint_mask-mask.result _ (omega arith)
          c.vecint_mask-mask.ensures c.lanes-on.ensures,
    )

pub returns : goal.returns
returns c =
    let right = eq-eqb (length c.args.state.now) 5120 c.if-state-ne5120.false in (
      c.each_vector.ensures ∙ sym (pick_true _ _ right),
      c.bytes_enabled.ensures ∙ sym (pick_true _ _ right),
    )
