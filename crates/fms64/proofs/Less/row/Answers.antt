use Rattle.std.proofs.Common.{ℕ, List, ◌==◌, false, cond, length, slice_index, slice_index_or, sym, ap, ◌∙◌}
use Rattle.std.specs.Float.{binary64}
use Rattle.number.specs.Bytes.{table}
use Rattle.float.specs.Floats.{subtracted}
use Rattle.lanes.specs.Lanes.{each}
use Rattle.isa.specs.Effect.{applied}
use Rattle.state.specs.Rows.{one_row}
use Rattle.fms64.proofs.Plain.{map-same}
use Rattle.fms64.proofs.Rows.{negated-row, subtracted-row}
use Rattle.fms64.proofs.Less.row.Goals as goal

pub returns-then-self : goal.returns-then-self
returns-then-self c =
    let a = c.args in
    let values = c.negatives.result in
    negated-row a.row a.terms.now a.self.now.on a.state.now c.put_row.new.state values c.told-state
    c.fits-state c.requires
    (c.put_row.ensures
    ∙ ap (λ (v : List ℕ). cond (length a.state.now == 5120)
    (applied (one_row 8 a.row (λ l. slice_index_or a.self.now.on l false) (λ l z. slice_index v l)) a.state.now) a.state.now) (map-same values))
    a.self.now.skips_z c.if-self.true c.negatives.ensures

pub returns : goal.returns
returns c =
    let a = c.args in
    let zs = c.row-zs.result in
    let values = c.each-values.result in
    subtracted-row a.row a.terms.now a.self.now.on a.state.now c.put_row-2.new.state values c.told-state
    c.fits-state c.requires
    (c.put_row-2.ensures
    ∙ ap (λ (v : List ℕ). cond (length a.state.now == 5120)
    (applied (one_row 8 a.row (λ l. slice_index_or a.self.now.on l false) (λ l z. slice_index v l)) a.state.now) a.state.now) (map-same values))
    a.self.now.skips_z c.if-self.false zs (sym (map-same zs) ∙ c.row-zs.ensures)
    (sym (map-same values) ∙ c.each-values.ensures ∙ (λ i. table (each (subtracted binary64) (map-same zs i) (map-same a.terms.now i)) 0 8))
