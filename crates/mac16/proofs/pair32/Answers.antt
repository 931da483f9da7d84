use mathlib.Core.Path.{refl, sym, ap, ap₂, ◌∙◌}
use native.Mathlib.Omega.{arith}
use Prim.Native.Nat.{ℕ, ◌+◌, ◌*◌, ◌%◌}
use mir.Facts.{to_z-of_z}
use mir.Syntax.{w16}
use mathlib.Core.Bool.{false, cond}
use lib.IntN.{ℤ, pos}
use lib.Seq.{sets}
use lib.ListN.{get_or}
use borrow.Author.Rules.{sfits_of}
use Rattle.number.specs.Bytes.{byte_at, number, bytes_of}
use Rattle.state.specs.Rows.{lane_sum, run_sum}
use Rattle.state.proofs.RunLoop.{run_none, run-reads, run_more, run-all, in-run, summed}
use Rattle.mac16.proofs.Rows.{term-at, bytes-put}
use Rattle.mac16.proofs.Sides.{masked-at}
use Rattle.mac16.specs.Products.{masked, term, row_terms}
use mir.Syntax.{w16}
use Rattle.mac16.proofs.pair32.Goals as goal

pub loop-i-init : goal.loop-i-init
loop-i-init c =
    let a = c.args in (
      omega arith,
      run_none (run_sum 4 (a.j * 2) 2 (row_terms 4 32 (a.sum.shift % 32) (masked a.x.now.on a.x.now.lanes) a.ys.now) a.x.now.on a.sum.keep) 16 refl (a.j * 2)
          2 a.state.now c.told-state,
      c.fits-state,
    )

pub loop-i-preserved : goal.loop-i-preserved
loop-i-preserved c =
    let a = c.args in (
      omega arith,
      run_more (run_sum 4 (a.j * 2) 2 (row_terms 4 32 (a.sum.shift % 32) (masked a.x.now.on a.x.now.lanes) a.ys.now) a.x.now.on a.sum.keep) 16 refl
          (a.j * 2) 2 a.state.now
          (omega arith) c.loop-i.i (omega arith) _ c.loop-i.state c.sum_lane.new.state c.loop-i.invariant.1
          (c.sum_lane.ensures
          ∙ ap (λ (v : ℕ). sets c.loop-i.state (1024 + (a.j * 2 * 64 + c.loop-i.i * 4))
          (bytes_of 4 (lane_sum 4 (number 4 (byte_at c.loop-i.state) (1024 + (a.j * 2 * 64 + c.loop-i.i * 4))) v (get_or a.x.now.on c.loop-i.i false)
          a.sum.keep)))
          (c.term-term.ensures
          ∙ ap₂ (term 4 (a.sum.shift % 32))
          (to_z-of_z {w = w16} (sfits_of c.kept_if.type_inv)
          ∙ c.kept_if.ensures
          ∙ ap (λ (x : ℤ). cond (get_or a.x.now.on c.loop-i.i false) x (pos 0)) (to_z-of_z {w = w16} (sfits_of c.kept_if-arg-1.given))
          ∙ sym (masked-at a.x.now.on a.x.now.lanes c.loop-i.i (omega arith)))
          (to_z-of_z {w = w16} (sfits_of c.term-arg-1.given))
          ∙ sym (term-at 4 32 (a.sum.shift % 32) (masked a.x.now.on a.x.now.lanes) a.ys.now c.loop-i.i (omega arith))))
          (summed 4 (a.j * 2) 2 (row_terms 4 32 (a.sum.shift % 32) (masked a.x.now.on a.x.now.lanes) a.ys.now) a.x.now.on a.sum.keep 16 refl a.state.now
          c.fits-state c.loop-i.i _ (omega arith)
          (run-reads (run_sum 4 (a.j * 2) 2 (row_terms 4 32 (a.sum.shift % 32) (masked a.x.now.on a.x.now.lanes) a.ys.now) a.x.now.on a.sum.keep) 16 refl
          (a.j * 2) 2
          a.state.now (omega arith) c.loop-i.i (omega arith) c.loop-i.state c.loop-i.invariant.1)),
      bytes-put _ _ 4 _ c.loop-i.invariant.2 c.sum_lane.ensures,
    )

pub returns : goal.returns
returns c =
    let a = c.args in
    run-all (run_sum 4 (a.j * 2) 2 (row_terms 4 32 (a.sum.shift % 32) (masked a.x.now.on a.x.now.lanes) a.ys.now) a.x.now.on a.sum.keep) 16 refl
    (a.j * 2) 2 a.state.now
    (in-run 4 (a.j * 2) 2 (row_terms 4 32 (a.sum.shift % 32) (masked a.x.now.on a.x.now.lanes) a.ys.now) a.x.now.on a.sum.keep) c.loop-i.i c.loop-i.state
    c.loop-i-test.false c.told-state c.fits-state c.loop-i.invariant.2 c.loop-i.invariant.1
