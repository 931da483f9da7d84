use Rattle.mac16.proofs.Rows.{bytes-if, matrix16-turn}
use Rattle.mac16.specs.Products.{products}
use Rattle.state.proofs.RowsLoop.{rows_start, rows_end}
use Rattle.isa.specs.Mac16 as Mac16
use Prim.Native.Nat.{◌*◌, ◌%◌}
use native.Mathlib.Omega.{arith}
use mathlib.Core.Path.{refl}
use Rattle.mac16.proofs.matrix16.Goals as goal

pub loop-j-init : goal.loop-j-init
loop-j-init c =
    let a = c.args in (
      omega arith,
      λ hp. rows_start (products Mac16.matrix16 a.p a.x.now.lanes a.x.now.on a.y.now.lanes a.y.now.on (a.sum.shift % 32) a.sum.keep) 32 refl a.state.now
          c.told-state,
      c.fits-state,
    )

pub loop-j-preserved : goal.loop-j-preserved
loop-j-preserved c =
    let a = c.args in (
      omega arith,
      λ hp. matrix16-turn a.p hp a.x.now.lanes a.x.now.on a.y.now.lanes a.y.now.on (a.sum.shift % 32) a.sum.keep a.state.now c.loop-j.j c.loop-j.state
          c.matrix16_row.new.state (omega arith) (c.loop-j.invariant.1 hp) c.matrix16_row.ensures,
      bytes-if _ _ _ c.loop-j.invariant.2 c.matrix16_row.ensures,
    )

pub returns : goal.returns
returns c =
    let a = c.args in
    rows_end (products Mac16.matrix16 a.p a.x.now.lanes a.x.now.on a.y.now.lanes a.y.now.on (a.sum.shift % 32) a.sum.keep) 32 refl a.state.now
    (2 * c.loop-j.j) c.loop-j.state
    (omega arith) c.told-state c.fits-state c.loop-j.invariant.2 (c.loop-j.invariant.1 c.requires)
