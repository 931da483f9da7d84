use Rattle.fms64.proofs.Rows.{bytes-if, done_none, matrix-turn, done_all}
use Prim.Native.Nat.{◌*◌}
use native.Mathlib.Omega.{arith}
use Rattle.fms64.proofs.Less.matrix.Goals as goal

pub loop-j-init : goal.loop-j-init
loop-j-init c =
    let a = c.args in (
      omega arith,
      done_none a.p a.self.now.terms a.self.now.skips_x a.self.now.on a.yon.now a.self.now.skips_z a.state.now c.told-state,
      c.fits-state,
    )

pub loop-j-preserved : goal.loop-j-preserved
loop-j-preserved c =
    let a = c.args in (
      omega arith,
      matrix-turn a.p a.self.now.terms a.self.now.skips_x a.self.now.on a.yon.now a.self.now.skips_z a.state.now
          c.loop-j.j c.loop-j.state c.matrix_row.new.state
          c.requires (omega arith) c.loop-j.invariant.1 c.matrix_row.ensures,
      bytes-if _ _ _ c.loop-j.invariant.2 c.matrix_row.ensures,
    )

pub returns : goal.returns
returns c =
    let a = c.args in
    done_all a.p a.self.now.terms a.self.now.skips_x a.self.now.on a.yon.now a.self.now.skips_z a.state.now
    (8 * c.loop-j.j) c.loop-j.state (omega arith) c.told-state
    c.fits-state c.loop-j.invariant.2 c.loop-j.invariant.1
