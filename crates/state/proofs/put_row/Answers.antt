use Rattle.state.proofs.Numbers.{row_read, lane_fits, number-chosen, stored-none, stored_more, stored-all, stored-outside}
use Rattle.std.proofs.lemmas.List.Edits.{sets}
use Rattle.number.specs.Bytes.{bytes_of}
use Rattle.std.proofs.Common.{ℕ, ◌+◌, ◌*◌, map, false, ap, ◌∙◌, slice_index_or, arith}
use Rattle.state.proofs.put_row.Goals as goal

pub returns-then-row-ge64 : goal.returns-then-row-ge64
returns-then-row-ge64 g c =
    let a = c.args in
    stored-outside g.T.Lane.BYTES g.row.N c.requires a.row (map g.T.Lane.bits a.values.now) a.on.now a.state.now (omega arith) c.if-state-ne5120.false

pub overflow_mul-l : goal.overflow_mul-l
overflow_mul-l g c =
    omega (arith, ap (λ (b : ℕ). c.loop-l.l * b) c.BYTES.ensures, lane_fits g.T.Lane.BYTES g.row.N c.requires c.loop-l.l c.loop-l-test.true)

pub overflow_add-row-in-loop-l : goal.overflow_add-row-in-loop-l
overflow_add-row-in-loop-l g c =
    omega (arith, ap (λ (b : ℕ). c.loop-l.l * b) c.BYTES.ensures, lane_fits g.T.Lane.BYTES g.row.N c.requires c.loop-l.l c.loop-l-test.true)

pub overflow_add-row-in-loop-l-2 : goal.overflow_add-row-in-loop-l-2
overflow_add-row-in-loop-l-2 g c =
    omega (arith, ap (λ (b : ℕ). c.loop-l.l * b) c.BYTES.ensures, lane_fits g.T.Lane.BYTES g.row.N c.requires c.loop-l.l c.loop-l-test.true)

pub loop-l-init : goal.loop-l-init
loop-l-init g c =
    let a = c.args in (
      c.requires,
      stored-none g.T.Lane.BYTES g.row.N c.requires a.row (map g.T.Lane.bits a.values.now) a.on.now a.state.now c.if-state-ne5120.false
          (λ p. (c.slice_known-1.given p).fits),
    )

pub loop-l-preserved : goal.loop-l-preserved
loop-l-preserved g c =
    let a = c.args in
    let b = g.T.Lane.BYTES in
    let l = c.loop-l.l in
    let fit = c.loop-l.invariant.0 in (
      fit,
      stored_more b g.row.N fit a.row (map g.T.Lane.bits a.values.now) a.on.now a.state.now (map g.T.Lane.bits c.words-zs.result)
          (row_read b g.row.N fit a.state.now c.straight-bytes.result (map g.T.Lane.bits c.words-zs.result) a.row c.straight-bytes.ensures c.words-zs.ensures)
          l (g.T.Lane.bits c.chosen.result) c.loop-l.state c.store.new.s (λ p. (c.slice_known-1.given p).fits)
          (λ p. (c.slice_known-in-loop-l-1.given p).fits) (omega arith) c.loop-l-test.true c.loop-l.invariant.1
          (number-chosen g.T.Lane.bits (slice_index_or a.on.now l false) a.values.now c.words-zs.result l c.chosen.result _ _
          (omega (arith, c.told-values, c.loop-l-test.true)) (omega (arith, c.words-zs.type_inv, c.loop-l-test.true)) c.chosen.ensures)
          (c.store.ensures
          ∙ ap (λ (k : ℕ). sets c.loop-l.state (1024 + (a.row * 64 + l * k)) (bytes_of b (g.T.Lane.bits c.chosen.result))) c.BYTES.ensures),
    )

pub returns : goal.returns
returns g c =
    let a = c.args in
    stored-all g.T.Lane.BYTES g.row.N c.loop-l.invariant.0 a.row (map g.T.Lane.bits a.values.now) a.on.now a.state.now c.loop-l.l c.loop-l.state
    c.loop-l-test.false c.if-state-ne5120.false (λ p. (c.slice_known-1.given p).fits) c.loop-l.invariant.1
