use mathlib.Core.Path.{◌≡◌, sym, ap, ◌∙◌}
use Rattle.std.proofs.Common.{rules}
use Rattle.std.specs.Prelude.{Ok, Err}
use Rattle.call.proofs.Rows.{normal_by}
use Rattle.call.proofs.normal.Goals as goal

pub returns-in_err-own_answered : goal.returns-in_err-own_answered
returns-in_err-own_answered c =
    let e = c.in_err-own_answered.field-0.0 in
    let same : c.from_residual.result ≡ Err e = search rules in
    same ∙ normal_by c.args.call (Err e) (sym c.in_err-own_answered.was ∙ c.own_answered.ensures)

pub returns : goal.returns
returns c =
    ap Ok c.normal_operand.ensures
    ∙ normal_by c.args.call (Ok tt) (sym c.in_ok-own_answered.was ∙ c.own_answered.ensures)
