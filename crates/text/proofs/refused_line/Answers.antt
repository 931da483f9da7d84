use Rattle.text.proofs.Text.{file_stored}
use Rattle.text.proofs.refused_line.Goals as goal

pub returns : goal.returns
returns c =
    let a = c.args in
    let put-counted = c.put_counted-next in
    let put = c.put in
    file_stored a.out.now put-counted.new.out put.new.out a.at put-counted.result put.result a.number put-counted.ensures.stored
    put.ensures
