use Rattle.number.proofs.Range.{half-unit_is}
use Rattle.number.specs.Integers.{half_unit}
use Rattle.std.proofs.Common.{◌%◌, sym, ap, arith}
use Rattle.number.proofs.half_unit.Goals as goal

pub returns-then-t-eq0 : goal.returns-then-t-eq0
returns-then-t-eq0 c = ap half_unit (sym c.if-t-eq0.true)

pub returns : goal.returns
returns c = half-unit_is (c.args.s % 32) c.if-t-eq0.false (omega arith)
