use Rattle.std.proofs.Common.{length, sym, refl, ◌∙◌, arith, eq-eqb, ne_eqb}
use Rattle.state.proofs.RunLoop.{run_none, run-reads, run_more, run-all, run-outside, in-run, summed}
use Rattle.state.specs.Rows.{run_sum}
use Rattle.number.proofs.Tests.{pick_true, pick_false}
use Rattle.state.proofs.sum_row16.Goals as goal

pub returns-then-state-ne5120 : goal.returns-then-state-ne5120
returns-then-state-ne5120 c = sym (pick_false _ _ (ne_eqb (length c.args.state.now) 5120 c.if-state-ne5120.true))

pub returns-then-row-ge64 : goal.returns-then-row-ge64
returns-then-row-ge64 c =
    let a = c.args in
    run-outside (run_sum 2 a.row 1 a.values.now a.on.now a.keep) 32 refl a.row 1 a.state.now (in-run 2 a.row 1 a.values.now a.on.now a.keep)
    (omega arith) ∙ sym (pick_true _ _ (eq-eqb (length a.state.now) 5120 c.if-state-ne5120.false))

pub loop-i-init : goal.loop-i-init
loop-i-init c =
    let a = c.args in (
      omega arith,
      run_none (run_sum 2 a.row 1 a.values.now a.on.now a.keep) 32 refl a.row 1 a.state.now c.if-state-ne5120.false,
      λ p.
          (c.slice_known-1.given p).fits,
    )

pub loop-i-preserved : goal.loop-i-preserved
loop-i-preserved c =
    let a = c.args in (
      omega arith,
      run_more (run_sum 2 a.row 1 a.values.now a.on.now a.keep) 32 refl a.row 1 a.state.now (omega arith) c.loop-i.i (omega arith) _ c.loop-i.state
          c.sum_lane.new.state c.loop-i.invariant.1
          c.sum_lane.ensures
          (summed 2 a.row 1 a.values.now a.on.now a.keep 32 refl a.state.now (λ p. (c.slice_known-1.given p).fits) c.loop-i.i _ (omega arith)
          (run-reads (run_sum 2 a.row 1 a.values.now a.on.now a.keep) 32 refl a.row 1 a.state.now (omega arith) c.loop-i.i (omega arith) c.loop-i.state
          c.loop-i.invariant.1)),
      λ p. (c.slice_known-in-loop-i-1.given p).fits,
    )

pub shape_of-state : goal.shape_of-state
shape_of-state c = c.loop-i.invariant.1.size ∙ sym c.if-state-ne5120.false

pub returns : goal.returns
returns c =
    let a = c.args in
    run-all (run_sum 2 a.row 1 a.values.now a.on.now a.keep) 32 refl a.row 1 a.state.now (in-run 2 a.row 1 a.values.now a.on.now a.keep) c.loop-i.i
    c.loop-i.state c.loop-i-test.false c.if-state-ne5120.false (λ p. (c.slice_known-1.given p).fits) c.loop-i.invariant.2 c.loop-i.invariant.1
    ∙ sym (pick_true _ _ (eq-eqb (length a.state.now) 5120 c.if-state-ne5120.false))
