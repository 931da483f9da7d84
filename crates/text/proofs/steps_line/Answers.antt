use Rattle.text.proofs.Text.{steps_stored}
use Rattle.text.proofs.steps_line.Goals as goal

pub returns : goal.returns
returns c =
    let a = c.args in
    let put-counted = c.put_counted-next in
    let put = c.put in
    steps_stored a.out.now put-counted.new.out put.new.out a.at put-counted.result put.result a.n put-counted.ensures.stored
    put.ensures
