use Rattle.fms64.proofs.Rows.{row-left}
use Rattle.number.proofs.Tests.{pick_false}
use mathlib.Core.Path.{sym}
use Rattle.fms64.proofs.Less.matrix_row.Goals as goal

pub returns-then-yon-j : goal.returns-then-yon-j
returns-then-yon-j c =
    let a = c.args in
    row-left a.j a.p a.self.now.terms a.self.now.on a.self.now.skips_z a.state.now a.yon.now a.self.now.skips_x c.row.new.state
    c.told-state c.fits-state c.if-yon-j.true c.row_terms.result c.row_terms.ensures c.row.ensures

pub returns-else-yon-j : goal.returns-else-yon-j
returns-else-yon-j c = sym (pick_false _ _ c.if-yon-j.false)
