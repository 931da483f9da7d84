use Rattle.fms64.proofs.Meant.{kept-meant}
use Rattle.fms64.proofs.Whole.{matrix-is}
use mathlib.Core.Path.{sym, ◌∙◌}
use Rattle.fms64.proofs.matrix_rows.Goals as goal

pub returns-then-keeps_z : goal.returns-then-keeps_z
returns-then-keeps_z c =
    kept-meant c.args.op c.args.state.now c.told-state c.fits-state (sym c.keeps_z.ensures ∙ c.if-keeps_z.true)

pub returns : goal.returns
returns c =
    let a = c.args in
    let less = c.less_of.ensures in
    matrix-is a.op a.state.now c.matrix.new.state c.told-state c.fits-state c.keeps_z.result c.keeps_z.ensures c.if-keeps_z.false
    c.less_of.result.on less.2 c.less_of.result.terms less.0
    c.less_of.result.skips_z less.3 c.z_row.result c.z_row.ensures.0
    c.requires.0 a.y c.requires.2 c.lanes-yon.result c.lanes-yon.ensures c.less_of.result.skips_x less.1 c.matrix.ensures
