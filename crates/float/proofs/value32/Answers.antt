use mathlib.Core.Path.{sym, ◌∙◌}
use lib.Ieee.{binary32}
use Rattle.float.proofs.Nans.{read-nan, read_number, default_read}
use Rattle.float.proofs.value32.Goals as goal

pub returns-then-a-gt2139095040 : goal.returns-then-a-gt2139095040
returns-then-a-gt2139095040 c = default_read binary32 ∙ sym (read-nan binary32 c.args.a c.if-a-gt2139095040.true)

pub float_from_bits-result : goal.float_from_bits-result
float_from_bits-result c = read_number binary32 c.args.a c.if-a-gt2139095040.false
