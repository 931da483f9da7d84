use Rattle.std.proofs.Common.{ℕ, ◌+◌, ◌*◌, false, get_or, pos, sym, ap, ◌∙◌, arith, to_z-of_z, w32}
use borrow.Author.Rules.{sfits_of}
use Rattle.vecint.specs.Accumulation.{z_bytes, accumulate, lane_stored}
use Rattle.state.proofs.Dealing.{lanes-none, lanes-more, lanes_all}
use Rattle.reduction.proofs.Cases.{lane-inside}
use Rattle.vecint.proofs.Bounds.{place_in, lane-at}
use Rattle.vecint.proofs.row_in.Goals as goal

pub loop-l-init : goal.loop-l-init
loop-l-init g c =
    let a = c.args in
    let wide = g.T.Accumulated.wide in
    let fit = ap (λ (w : ℕ). g.row.N * w) g.met.T.Accumulated.width ∙ c.requires.4 in (
      omega arith,
      (
        fit,
        lanes-none (z_bytes wide) g.row.N fit a.row (λ l. get_or a.on.now (l * a.c + a.q) false)
            (λ l. accumulate wide a.how a.terms.now (l * a.c + a.q)) a.state.now c.requires.0,
      ),
      λ p. (c.slice_known-1.given p).fits,
    )

pub loop-l-smaller : goal.loop-l-smaller
loop-l-smaller g c = omega (arith, c.loop-l-test.true)

pub loop-l-preserved : goal.loop-l-preserved
loop-l-preserved g c =
    let a = c.args in
    let wide = g.T.Accumulated.wide in
    let fit = c.loop-l.invariant.1.0 in
    let k = c.loop-l.l * a.c + a.q in
    let width = c.BYTES.ensures ∙ sym g.met.T.Accumulated.width in
    let place =
    lane-at a.row (c.loop-l.l * c.BYTES.result) c.requires.1 ∙ ap (λ (b : ℕ). 1024 + (a.row * 64 + c.loop-l.l * b)) width in (
      omega (arith, c.loop-l-test.true),
      (
        fit,
        lanes-more (z_bytes wide) g.row.N fit a.row (λ l. get_or a.on.now (l * a.c + a.q) false)
            (λ l. accumulate wide a.how a.terms.now (l * a.c + a.q)) a.state.now c.loop-l.l c.loop-l.state c.lane.new.state
            (λ p. (c.slice_known-1.given p).fits) c.requires.1 c.loop-l-test.true c.loop-l.invariant.1.1
            (c.lane.ensures ∙ (λ i. lane_stored wide a.how c.loop-l.state (place i)
            (to_z-of_z {w = w32} {z = get_or a.terms.now k (pos 0)} (sfits_of c.lane-arg-in-loop-l-1.given) i) (get_or a.on.now k false))),
      ),
      λ p. (c.slice_known-in-loop-l-1.given p).fits,
    )

pub shape_of-state : goal.shape_of-state
shape_of-state g c = c.loop-l.invariant.1.1.size ∙ sym c.requires.0

pub returns : goal.returns
returns g c =
    let a = c.args in
    let wide = g.T.Accumulated.wide in
    lanes_all (z_bytes wide) g.row.N c.loop-l.invariant.1.0 a.row (λ l. get_or a.on.now (l * a.c + a.q) false)
    (λ l. accumulate wide a.how a.terms.now (l * a.c + a.q)) a.state.now c.loop-l.l c.loop-l.state c.loop-l-test.false c.requires.0
    (λ p. (c.slice_known-1.given p).fits) c.loop-l.invariant.2 c.loop-l.invariant.1.1

pub overflow_mul-k : goal.overflow_mul-k
overflow_mul-k g c = omega (arith, place_in g.row.N c.loop-l.l c.args.q c.args.c c.loop-l-test.true c.requires.2 c.requires.3)

pub overflow_add-k : goal.overflow_add-k
overflow_add-k g c = omega (arith, place_in g.row.N c.loop-l.l c.args.q c.args.c c.loop-l-test.true c.requires.2 c.requires.3)

pub offset_bounds-terms-k : goal.offset_bounds-terms-k
offset_bounds-terms-k g c = omega (arith, place_in g.row.N c.loop-l.l c.args.q c.args.c c.loop-l-test.true c.requires.2 c.requires.3)

pub bounds-terms-k : goal.bounds-terms-k
bounds-terms-k g c = omega (arith, place_in g.row.N c.loop-l.l c.args.q c.args.c c.loop-l-test.true c.requires.2 c.requires.3)

pub bounds-on-k : goal.bounds-on-k
bounds-on-k g c = omega (arith, place_in g.row.N c.loop-l.l c.args.q c.args.c c.loop-l-test.true c.requires.2 c.requires.3)

pub overflow_mul-l : goal.overflow_mul-l
overflow_mul-l g c =
    let r = c.requires in
    omega (
      arith,
      r.1,
      lane-inside c.loop-l.l g.row.N g.T.Lane.BYTES c.BYTES.result
          c.args.row c.loop-l-test.true r.4 c.BYTES.ensures r.1,
    )

pub overflow_add-start-in-loop-l : goal.overflow_add-start-in-loop-l
overflow_add-start-in-loop-l g c =
    let r = c.requires in
    omega (
      arith,
      r.1,
      lane-inside c.loop-l.l g.row.N g.T.Lane.BYTES c.BYTES.result
          c.args.row c.loop-l-test.true r.4 c.BYTES.ensures r.1,
    )

pub lane-requires : goal.lane-requires
lane-requires g c =
    let r = c.requires in
    omega (
      arith,
      r.1,
      c.loop-l.invariant.1.1.size,
      lane-inside c.loop-l.l g.row.N g.T.Lane.BYTES c.BYTES.result
          c.args.row c.loop-l-test.true r.4 c.BYTES.ensures r.1,
    )
