use borrow.Author.Rules.{sfits_of}
use mir.Facts.{to_z-of_z}
use Rattle.mac16.proofs.Sides.{x-side-is}
use Rattle.mac16.proofs.x_side.Goals as goal

pub returns : goal.returns
returns c =
    let a = c.args in
    x-side-is a.op a.state.now c.side_of.result c.load-bytes.result c.field.result c.flag.result c.flag-2.result c.other_than_x.result
    (rw (to_z-of_z (sfits_of c.other_than_x.type_inv)) at c.side_of.ensures) c.load-bytes.ensures c.field.ensures c.flag.ensures c.flag-2.ensures
    c.other_than_x.ensures
