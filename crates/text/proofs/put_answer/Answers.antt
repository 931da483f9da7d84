use Rattle.text.proofs.Text.{done-stored, no-op-stored, refused-stored}
use Rattle.text.proofs.put_answer.Goals as goal

pub returns-in-Done : goal.returns-in-Done
returns-in-Done c =
    let a = c.args in
    let arm = c.in-Done in
    let word = c.put_word-next in
    let digits = c.put_decimal in
    let whole =
    done-stored a.out.now word.new.out digits.new.out a.at word.result digits.result a.answer arm.bytes arm.is
    word.ensures digits.ensures.stored digits.ensures.short
    in
    record { stored = whole.0; short = whole.1 }

pub returns-in-NoOp : goal.returns-in-NoOp
returns-in-NoOp c =
    let a = c.args in
    let arm = c.in-NoOp in
    let word = c.put_word-next-in-NoOp in
    let digits = c.put_decimal-in-NoOp in
    let number = c.into in
    let whole =
    no-op-stored a.out.now word.new.out digits.new.out a.at word.result digits.result a.answer arm.r number.result arm.is
    number.ensures.0 word.ensures digits.ensures.stored digits.ensures.short
    in
    record { stored = whole.0; short = whole.1 }

pub returns-in-Refused : goal.returns-in-Refused
returns-in-Refused c =
    let a = c.args in
    let arm = c.in-Refused in
    let word = c.put_word-next-in-Refused in
    let digits = c.put_decimal-in-Refused in
    let number = c.into-in-Refused in
    let whole =
    refused-stored a.out.now word.new.out digits.new.out a.at word.result digits.result a.answer arm.r number.result arm.is
    number.ensures.0 word.ensures digits.ensures.stored digits.ensures.short
    in
    record { stored = whole.0; short = whole.1 }
