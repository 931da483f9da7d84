use native.Mathlib.Omega.{arith}
use mathlib.Core.Path.{sym, ap, ◌∙◌}
use Prim.Native.Nat.{ℕ, ◌+◌, ◌*◌}
use mathlib.Core.Bool.{false}
use lib.ListN.{get_or}
use Rattle.state.proofs.Dealing.{lanes-none, lanes-more, lanes_all}
use Rattle.reduction.specs.Reduction.{reduce_to, lane_stored}
use Rattle.reduction.proofs.Cases.{lane-inside, lanes-few}
use Rattle.reduction.proofs.row_of.Goals as goal

pub loop-l-init : goal.loop-l-init
loop-l-init g c =
    let a = c.args in
    let b = g.T.Lane.BYTES in (
      omega arith,
      (c.requires.2, lanes-none b g.row.N c.requires.2 a.row (λ l. get_or a.on.now l false) (λ l. reduce_to b a.how) a.state.now c.requires.0),
      λ p. (c.slice_known-1.given p).fits,
    )

pub loop-l-smaller : goal.loop-l-smaller
loop-l-smaller g c = omega (arith, c.loop-l-test.true)

pub loop-l-preserved : goal.loop-l-preserved
loop-l-preserved g c =
    let a = c.args in
    let b = g.T.Lane.BYTES in
    let fit = c.loop-l.invariant.1.0 in (
      omega (arith, c.loop-l-test.true),
      (
        fit,
        lanes-more b g.row.N fit a.row (λ l. get_or a.on.now l false) (λ l. reduce_to b a.how) a.state.now c.loop-l.l c.loop-l.state
            c.lane.new.state (λ p. (c.slice_known-1.given p).fits) c.requires.1 c.loop-l-test.true c.loop-l.invariant.1.1
            (c.lane.ensures ∙ ap (λ (w : ℕ). lane_stored b a.how c.loop-l.state (1024 + (a.row * 64 + c.loop-l.l * w)) (get_or a.on.now c.loop-l.l false))
            c.BYTES.ensures),
      ),
      λ p. (c.slice_known-in-loop-l-1.given p).fits,
    )

pub shape_of-state : goal.shape_of-state
shape_of-state g c = c.loop-l.invariant.1.1.size ∙ sym c.requires.0

pub returns : goal.returns
returns g c =
    let a = c.args in
    let b = g.T.Lane.BYTES in
    lanes_all b g.row.N c.loop-l.invariant.1.0 a.row (λ l. get_or a.on.now l false) (λ l. reduce_to b a.how) a.state.now c.loop-l.l c.loop-l.state
    c.loop-l-test.false c.requires.0 (λ p. (c.slice_known-1.given p).fits) c.loop-l.invariant.2 c.loop-l.invariant.1.1

pub overflow_mul-l : goal.overflow_mul-l
overflow_mul-l g c =
    let r = c.requires in
    omega (
      arith,
      r.1,
      lane-inside c.loop-l.l g.row.N g.T.Lane.BYTES c.BYTES.result
          c.args.row c.loop-l-test.true r.2 c.BYTES.ensures r.1,
    )

pub overflow_add-row : goal.overflow_add-row
overflow_add-row g c =
    let r = c.requires in
    omega (
      arith,
      r.1,
      lane-inside c.loop-l.l g.row.N g.T.Lane.BYTES c.BYTES.result
          c.args.row c.loop-l-test.true r.2 c.BYTES.ensures r.1,
    )

pub overflow_add-row-in-loop-l : goal.overflow_add-row-in-loop-l
overflow_add-row-in-loop-l g c =
    let r = c.requires in
    omega (
      arith,
      r.1,
      lane-inside c.loop-l.l g.row.N g.T.Lane.BYTES c.BYTES.result
          c.args.row c.loop-l-test.true r.2 c.BYTES.ensures r.1,
    )

pub bounds-on-l : goal.bounds-on-l
bounds-on-l g c = omega (arith, c.loop-l-test.true, lanes-few g.row.N g.T.Lane.BYTES c.requires.2)

pub lane-requires : goal.lane-requires
lane-requires g c =
    let r = c.requires in
    omega (
      arith,
      c.loop-l.invariant.1.1.size,
      lane-inside c.loop-l.l g.row.N g.T.Lane.BYTES c.BYTES.result
          c.args.row c.loop-l-test.true r.2 c.BYTES.ensures r.1,
    )
