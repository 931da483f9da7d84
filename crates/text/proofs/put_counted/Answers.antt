use Rattle.text.specs.Lines.{digits}
use Rattle.text.proofs.Pieces.{stored_counted}
use Rattle.text.proofs.put_counted.Goals as goal

pub returns : goal.returns
returns c =
    let a = c.args in
    let put_word = c.put_word-next in
    let put-decimal = c.put_decimal in
    let whole =
    stored_counted a.out.now put_word.new.out put-decimal.new.out a.at put_word.result put-decimal.result a.word.now
    (digits a.n) put_word.ensures put-decimal.ensures.stored put-decimal.ensures.short
    in
    record { stored = whole.0; short = whole.1 }
