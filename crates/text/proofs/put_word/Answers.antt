use mathlib.Core.Path.{refl, ap, ◌∙◌}
use Prim.Native.Nat.{◌+◌}
use native.Mathlib.Omega.{arith}
use lib.ListN.{length, get_or, take}
use lib.Seq.{length-sets}
use Rattle.text.proofs.Pieces.{byte_stored, word_more, word-all}
use Rattle.text.proofs.put_word.Goals as goal

pub returns-then-at-word : goal.returns-then-at-word
returns-then-at-word c = (c.store_word.ensures, refl)

pub loop-i-init : goal.loop-i-init
loop-i-init c = (omega arith, refl)

pub loop-i-preserved : goal.loop-i-preserved
loop-i-preserved c =
    let a = c.args in (
      omega arith,
      word_more a.out.now c.loop-i.out c.put.new.s a.at c.loop-i.i (get_or a.word.now c.loop-i.i 0) a.word.now
          (omega arith) refl c.loop-i.invariant.1
          (byte_stored c.loop-i.out c.put.new.s (a.at + c.loop-i.i) (get_or a.word.now c.loop-i.i 0) (c.type_inv.word c.loop-i.i).fits c.put.ensures),
    )

pub shape_of-out : goal.shape_of-out
shape_of-out c =
    let a = c.args in
    ap length c.loop-i.invariant.1 ∙ length-sets a.out.now a.at (take c.loop-i.i a.word.now)

pub returns : goal.returns
returns c =
    let a = c.args in
    (word-all a.out.now c.loop-i.out a.at c.loop-i.i a.word.now (omega arith) c.loop-i.invariant.1, refl)
