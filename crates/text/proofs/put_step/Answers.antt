use Rattle.text.proofs.Text.{step_stored}
use Rattle.text.proofs.put_step.Goals as goal

pub returns : goal.returns
returns c =
    step_stored c.args.out.now c.put_word-next.new.out c.put_decimal-next.new.out c.put_answer-next.new.out c.put.new.out
    c.args.at c.put_word-next.result c.put_decimal-next.result c.put_answer-next.result c.put.result
    c.args.place c.args.answer c.put_word-next.ensures c.put_decimal-next.ensures.stored c.put_answer-next.ensures.stored c.put.ensures
