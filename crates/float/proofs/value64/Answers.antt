use mathlib.Core.Path.{sym, ◌∙◌}
use lib.Ieee.{binary64}
use Rattle.float.proofs.Nans.{read-nan, read_number, default_read}
use Rattle.float.proofs.value64.Goals as goal

pub returns-then-a-gt9218868437227405312 : goal.returns-then-a-gt9218868437227405312
returns-then-a-gt9218868437227405312 c = default_read binary64 ∙ sym (read-nan binary64 c.args.a c.if-a-gt9218868437227405312.true)

pub float_from_bits-result : goal.float_from_bits-result
float_from_bits-result c = read_number binary64 c.args.a c.if-a-gt9218868437227405312.false
