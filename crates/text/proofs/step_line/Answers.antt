use Rattle.text.proofs.Text.{done-line}
use Rattle.text.proofs.step_line.Goals as goal

pub returns : goal.returns
returns c =
    let a = c.args in
    done-line a.out.now c.store_done.new.out a.at c.store_done.result a.place c.in-Done.bytes a.answer
    c.in-Done.is c.store_done.ensures
