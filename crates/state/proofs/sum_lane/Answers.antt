use Rattle.number.specs.Bytes.{bytes_of}
use Rattle.std.proofs.lemmas.List.Edits.{sets}
use Rattle.std.proofs.Common.{ℕ, ap, ◌∙◌}
use Rattle.state.specs.Rows.{lane_sum}
use Rattle.state.proofs.sum_lane.Goals as goal

pub returns : goal.returns
returns g c =
    let b = g.T.Lane.BYTES in
    c.put.ensures
    ∙ ap (λ (n : ℕ). sets c.args.state.now c.args.at (bytes_of b n))
    (c.summed.ensures ∙ ap (λ (z : ℕ). lane_sum b z (g.T.Lane.bits c.args.v) c.args.on c.args.keep) c.get-z.ensures)
