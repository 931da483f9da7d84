use Rattle.std.proofs.Common.{rules}
use Rattle.operand.proofs.Rows.{few-vectors}
use Rattle.vecfp.proofs.Sides.{row-filled}
use Rattle.vecfp.proofs.Vectors.{vector-meant}
use Rattle.vecfp.proofs.vector.Goals as goal

pub x_side-requires : goal.x_side-requires
x_side-requires g c = few-vectors c.args.generation c.args.op c.args.v c.requires.2

pub y_side-requires : goal.y_side-requires
y_side-requires g c = few-vectors c.args.generation c.args.op c.args.v c.requires.2

pub side_lanes-x-requires : goal.side_lanes-x-requires
side_lanes-x-requires g c = let fills = c.requires.0 in search rules

pub side_lanes-y-requires : goal.side_lanes-y-requires
side_lanes-y-requires g c = let fills = c.requires.0 in search rules

pub row-z-requires : goal.row-z-requires
row-z-requires g c = let fit = row-filled g.T.Pattern.format g.T.Lane.BYTES g.row.N c.requires.0 in search rules

pub put_row-requires : goal.put_row-requires
put_row-requires g c = let fit = row-filled g.T.Pattern.format g.T.Lane.BYTES g.row.N c.requires.0 in search rules

pub returns : goal.returns
returns g c =
    let a = c.args in
    vector-meant g.T.Pattern.format a.generation a.op a.v a.state.now c.requires.3 c.told-state c.fits-state
    c.requires.2 c.requires.4
    (record {
      x-side = c.x_side.ensures;
      y-side = c.y_side.ensures;
      x-lanes = c.side_lanes-x.ensures;
      y-lanes = c.side_lanes-y.ensures;
      results = c.results-out.ensures;
    })
    c.vecfp_row-row.ensures c.requires.0 c.row-z.ensures c.put_row.ensures
