use mathlib.Core.Path.{sym, ◌∙◌}
use native.Mathlib.Omega.{arith}
use Rattle.number.proofs.Tests.{pick_true, pick_false}
use Rattle.operand.proofs.Fields.{bits-lt}
use Rattle.loads.proofs.first_offset.Goals as goal

pub returns-then-y : goal.returns-then-y
returns-then-y c =
    let op = c.args.op in
    (c.field.ensures ∙ sym (pick_true _ _ c.if-y.true), omega (arith, c.field.ensures, bits-lt op 0 8))

pub returns : goal.returns
returns c =
    let op = c.args.op in
    (c.field-2.ensures ∙ sym (pick_false _ _ c.if-y.false), omega (arith, c.field-2.ensures, bits-lt op 10 18))
