use Rattle.mac16.proofs.Sides.{split-masked}
use Rattle.mac16.proofs.Rows.{bytes-if, matrix32-turn}
use Rattle.mac16.specs.Products.{masked, products}
use Rattle.state.proofs.RowsLoop.{rows_start, rows_end}
use Rattle.isa.specs.Mac16 as Mac16
use mathlib.Core.Bool.{false}
use lib.IntN.{pos}
use Prim.Native.Nat.{◌*◌, ◌%◌}
use native.Mathlib.Omega.{arith}
use mathlib.Core.Path.{refl, ap₂, ◌∙◌}
use Rattle.mac16.proofs.matrix32.Goals as goal

pub loop-j-init : goal.loop-j-init
loop-j-init c =
    let a = c.args in (
      omega arith,
      rows_start (products Mac16.matrix32 0 (masked a.x.now.on a.x.now.lanes) a.x.now.on a.y.now.lanes a.y.now.on (a.sum.shift % 32) a.sum.keep) 16
          refl a.state.now
          c.told-state,
      c.fits-state,
    )

pub loop-j-preserved : goal.loop-j-preserved
loop-j-preserved c =
    let a = c.args in (
      omega arith,
      matrix32-turn 0 (masked a.x.now.on a.x.now.lanes) a.x.now.on a.y.now.lanes a.y.now.on (a.sum.shift % 32) a.sum.keep a.state.now c.loop-j.j
          (masked c.split-2.result c.split.result) c.split-2.result c.loop-j.state c.matrix32_pair.new.state (omega arith)
          (ap₂ masked (c.split-2.ensures false) (c.split.ensures (pos 0)) ∙ split-masked a.x.now.on a.x.now.lanes) (c.split-2.ensures false)
          c.loop-j.invariant.1 c.matrix32_pair.ensures,
      bytes-if _ _ _ c.loop-j.invariant.2 c.matrix32_pair.ensures,
    )

pub returns : goal.returns
returns c =
    let a = c.args in
    rows_end (products Mac16.matrix32 0 (masked a.x.now.on a.x.now.lanes) a.x.now.on a.y.now.lanes a.y.now.on (a.sum.shift % 32) a.sum.keep) 16 refl a.state.now
    (c.loop-j.j * 2) c.loop-j.state (omega arith) c.told-state c.fits-state c.loop-j.invariant.2 c.loop-j.invariant.1
