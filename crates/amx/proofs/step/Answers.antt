use mathlib.Core.Path.{refl, sym, ap, ◌∙◌}
use Rattle.std.specs.Prelude.{Ok, Err}
use Rattle.isa.specs.declared.NotDone.TheVariants as not_done
use Rattle.isa.specs.Call.{call}
use Rattle.amx.proofs.Table.{step-needs, step-done, step-no-op, step-refused}
use Rattle.amx.proofs.step.Goals as goal

pub done-requires : goal.done-requires
done-requires c =
    let a = c.args in
    step-needs (call a.instruction a.generation a.operand) a.serial a.state.now c.due-count.ensures c.answered.ensures (Ok tt) c.in-Ok.is refl

pub raise-requires : goal.raise-requires
raise-requires c =
    let a = c.args in
    let why = c.in-Err-NoOp in
    step-needs (call a.instruction a.generation a.operand) a.serial a.state.now c.due-count.ensures c.answered.ensures
    (Err (not_done.NoOp why.r)) (why.is ∙ ap Err why.field-0-is) refl

pub returns-in-Ok : goal.returns-in-Ok
returns-in-Ok c =
    let a = c.args in
    step-done (call a.instruction a.generation a.operand) a.serial a.state.now c.due-count.ensures c.answered.ensures
    c.done.result c.done.new.state c.in-Ok.is c.done.ensures.0 c.done.ensures.1

pub returns-in-Err-NoOp : goal.returns-in-Err-NoOp
returns-in-Err-NoOp c =
    let a = c.args in
    let why = c.in-Err-NoOp in
    step-no-op (call a.instruction a.generation a.operand) a.serial a.state.now c.due-count.ensures c.answered.ensures
    _ c.raise.new.state (why.is ∙ ap Err (why.field-0-is ∙ ap not_done.NoOp (sym why.r-is))) c.raise.ensures

pub returns-in-Err-Refused : goal.returns-in-Err-Refused
returns-in-Err-Refused c =
    let a = c.args in
    let why = c.in-Err-Refused in
    step-refused (call a.instruction a.generation a.operand) a.serial a.state.now c.due-count.ensures c.answered.ensures
    _ (why.is ∙ ap Err (why.field-0-is ∙ ap not_done.Refused (sym why.r-is)))
