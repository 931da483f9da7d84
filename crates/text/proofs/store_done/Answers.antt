use mathlib.Core.Path.{refl}
use Prim.Native.Nat.{◌+◌}
use Rattle.isa.specs.declared.Answer.TheVariants.{Done}
use Rattle.text.proofs.Text.{done-stored, step_stored}
use Rattle.text.proofs.store_done.Goals as goal

pub returns : goal.returns
returns c =
    let a = c.args in
    let front = c.store_decimal-next in
    let digits = c.store_decimal-next-2 in
    let answer =
    done-stored front.new.out c.store_word-2.new.out digits.new.out front.result (front.result + 6) digits.result
    (Done a.bytes) a.bytes refl (c.store_word-2.ensures, refl) digits.ensures.stored digits.ensures.short
    in
    step_stored a.out.now c.store_word.new.out front.new.out digits.new.out c.store_word-3.new.out
    a.at (a.at + 5) front.result digits.result (digits.result + 1) a.place (Done a.bytes)
    (c.store_word.ensures, refl) front.ensures.stored answer.0 (c.store_word-3.ensures, refl)
