use Rattle.std.proofs.Common.{false, get_or, sym, ◌∙◌, arith}
use Rattle.vecint.specs.Accumulation.{z_bytes, z_lanes, accumulate}
use Rattle.vecint.proofs.Bounds.{fits}
use Rattle.state.proofs.Dealing.{rows_none, rows-one-more, rows_all}
use Rattle.vecint.proofs.alu_rows.Goals as goal

pub loop-q-init : goal.loop-q-init
loop-q-init c =
    let a = c.args in (
      omega arith,
      rows_none (z_bytes a.wide) (z_lanes a.wide) (fits a.wide) a.base a.c (λ k. get_or a.on.now k false)
          (accumulate a.wide a.how a.terms.now) a.state.now c.requires.0,
      λ p. (c.slice_known-1.given p).fits,
    )

pub alu_row-requires : goal.alu_row-requires
alu_row-requires c = (c.loop-q.invariant.1.size, omega arith, c.loop-q-test.true, c.requires.2)

pub loop-q-preserved : goal.loop-q-preserved
loop-q-preserved c =
    let a = c.args in (
      omega arith,
      rows-one-more (z_bytes a.wide) (z_lanes a.wide) (fits a.wide) a.base a.c (λ k. get_or a.on.now k false)
          (accumulate a.wide a.how a.terms.now) a.state.now c.loop-q.q c.loop-q.state c.alu_row.new.state c.loop-q-test.true c.loop-q.invariant.1
          c.alu_row.ensures,
      λ p. (c.slice_known-in-loop-q-1.given p).fits,
    )

pub shape_of-state : goal.shape_of-state
shape_of-state c = c.loop-q.invariant.1.size ∙ sym c.requires.0

pub returns : goal.returns
returns c =
    let a = c.args in
    rows_all (z_bytes a.wide) (z_lanes a.wide) (fits a.wide) a.base a.c (λ k. get_or a.on.now k false) (accumulate a.wide a.how a.terms.now)
    a.state.now c.loop-q.q c.loop-q.state c.loop-q-test.false c.loop-q.invariant.0 c.requires.1 c.requires.0 (λ p. (c.slice_known-1.given p).fits)
    c.loop-q.invariant.2 c.loop-q.invariant.1
