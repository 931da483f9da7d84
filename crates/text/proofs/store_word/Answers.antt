use mathlib.Core.Path.{◌≡◌, refl, ap, ◌∙◌}
use Prim.Native.Nat.{◌+◌}
use native.Mathlib.Omega.{arith}
use lib.ListN.{length, get_or, set, take}
use lib.Seq.{length-sets}
use Rattle.text.proofs.Pieces.{word_more, word-all}
use Rattle.text.proofs.store_word.Goals as goal

pub loop-i-init : goal.loop-i-init
loop-i-init c = (omega arith, refl)

pub bounds-out-at : goal.bounds-out-at
bounds-out-at c =
    let a = c.args in
    let size : length c.loop-i.out ≡ length a.out.now =
    ap length c.loop-i.invariant.1 ∙ length-sets a.out.now a.at (take c.loop-i.i a.word.now)
    in omega (arith, size)

pub loop-i-preserved : goal.loop-i-preserved
loop-i-preserved c =
    let a = c.args in
    let byte = get_or a.word.now c.loop-i.i 0 in (
      omega arith,
      word_more a.out.now c.loop-i.out (set c.loop-i.out (a.at + c.loop-i.i) byte) a.at c.loop-i.i byte a.word.now
          (omega arith) refl c.loop-i.invariant.1 refl,
    )

pub shape_of-out : goal.shape_of-out
shape_of-out c =
    let a = c.args in
    ap length c.loop-i.invariant.1 ∙ length-sets a.out.now a.at (take c.loop-i.i a.word.now)

pub returns : goal.returns
returns c =
    let a = c.args in
    word-all a.out.now c.loop-i.out a.at c.loop-i.i a.word.now (omega arith) c.loop-i.invariant.1
