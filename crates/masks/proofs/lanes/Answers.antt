use Rattle.std.proofs.Common.{rules}
use Rattle.isa.specs.Operand.{bit}
use Rattle.number.proofs.Made.{from_fn-table}
use Rattle.masks.proofs.Bools.{lanes_on}
use Rattle.masks.proofs.lanes.Goals as goal

pub returns-then-mask : goal.returns-then-mask
returns-then-mask g c = lanes_on g.row.N c.args.mask c.requires c.if-mask.true

pub returns : goal.returns
returns g c = from_fn-table (bit c.args.mask) (λ k y q h s. search rules) c.from_fn.ensures.items
