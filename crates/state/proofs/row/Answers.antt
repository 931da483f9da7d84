use Rattle.state.proofs.Numbers.{row_read}
use Rattle.std.proofs.Common.{◌%◌, map}
use Rattle.state.proofs.row.Goals as goal

pub returns : goal.returns
returns g c =
    let a = c.args in
    row_read g.T.Lane.BYTES g.row.N c.requires a.state.now c.row_bytes.result (map g.T.Lane.bits c.words.result) (a.row % 64)
    c.row_bytes.ensures c.words.ensures
