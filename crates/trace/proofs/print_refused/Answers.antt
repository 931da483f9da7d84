use Rattle.file.specs.File.{file_refusal_number}
use Rattle.text.specs.Lines.{refused_line}
use Rattle.trace.proofs.Room.{refused-stored, stored_front}
use Rattle.trace.proofs.print_refused.Goals as goal

pub returns : goal.returns
returns c =
    let a = c.args in
    stored_front a.out.now c.refused_line.new.out (refused_line (file_refusal_number a.refusal)) c.refused_line.result
    (refused-stored a.out.now c.refused_line.new.out 0 c.from.result c.refused_line.result a.refusal
    c.from.ensures.0 c.refused_line.ensures)
