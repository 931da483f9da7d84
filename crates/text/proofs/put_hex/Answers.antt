use mathlib.Core.Path.{refl, ap, ◌∙◌}
use native.Mathlib.Omega.{arith}
use lib.ListN.{length, get_or, take}
use lib.Seq.{length-sets}
use Rattle.text.specs.Lines.{hex}
use Rattle.text.proofs.Pieces.{hex-none, hex-more, hex-all}
use Rattle.text.proofs.put_hex.Goals as goal

pub loop-i-init : goal.loop-i-init
loop-i-init c = (omega arith, hex-none c.args.out.now c.args.at c.args.bytes.now)

pub loop-i-preserved : goal.loop-i-preserved
loop-i-preserved c =
    let a = c.args in
    let turn = c.loop-i in
    let put-hex8 = c.put_hex8 in (
      omega arith,
      hex-more a.out.now turn.out put-hex8.new.out a.at turn.i (get_or a.bytes.now turn.i 0) a.bytes.now
          (omega arith) refl turn.invariant.1 put-hex8.ensures,
    )

pub shape_of-out : goal.shape_of-out
shape_of-out c =
    let a = c.args in
    let turn = c.loop-i in
    ap length turn.invariant.1 ∙ length-sets a.out.now a.at (hex (take turn.i a.bytes.now))

pub returns : goal.returns
returns c =
    let a = c.args in
    let pre = c.requires in
    let turn = c.loop-i in
    let whole = hex-all a.out.now turn.out a.at turn.i a.bytes.now pre.1 (omega arith) turn.invariant.1 in
    record { stored = whole.0; short = whole.1 }
