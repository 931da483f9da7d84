use Rattle.operand.proofs.Fields.{field_past, field-none, field-all, field-some, some-value}
use native.Mathlib.Omega.{arith}
use Rattle.operand.proofs.field.Goals as goal

pub returns-then-first-gt63 : goal.returns-then-first-gt63
returns-then-first-gt63 c = field_past c.args.op c.args.first c.args.last (omega arith) c.if-first-gt63.true

pub returns-then-last-first : goal.returns-then-last-first
returns-then-last-first c = field-none c.args.op c.args.first c.args.last (omega arith) c.if-last-first.true

pub returns-then-more-ge63 : goal.returns-then-more-ge63
returns-then-more-ge63 c = field-all c.args.op c.args.first c.args.last (omega arith) c.if-last-first.false c.if-more-ge63.true

pub nonzero_rem-result : goal.nonzero_rem-result
nonzero_rem-result c = some-value c.args.op c.args.first c.args.last (omega arith) c.if-last-first.false c.if-more-ge63.false

pub returns : goal.returns
returns c = field-some c.args.op c.args.first c.args.last (omega arith) c.if-last-first.false c.if-more-ge63.false
