use Rattle.text.proofs.Text.{row-stored}
use Rattle.text.proofs.z_line.Goals as goal

pub returns : goal.returns
returns c =
    let a = c.args in
    let put-counted = c.put_counted-next in
    let put = c.put-next in
    let put-hex = c.put_hex-next in
    let put2 = c.put in
    row-stored a.out.now put-counted.new.out put.new.out put-hex.new.out put2.new.out a.at put-counted.result put.result
    put-hex.result put2.result a.row a.bytes.now put-counted.ensures.stored put.ensures put-hex.ensures.stored put2.ensures
