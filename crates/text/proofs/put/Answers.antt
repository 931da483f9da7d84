use mathlib.Core.Path.{refl}
use Rattle.text.proofs.Pieces.{byte_stored}
use Rattle.text.proofs.put.Goals as goal

pub returns : goal.returns
returns c =
    let a = c.args in
    (byte_stored a.out.now c.put.new.s a.at a.b c.ranges.b.fits c.put.ensures, refl)
