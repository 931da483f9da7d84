use Rattle.std.proofs.Common.{rules, get_or}
use Rattle.std.specs.Float.{binary64}
use Rattle.number.proofs.Made.{from_fn-table}
use Rattle.float.specs.Floats.{negated}
use Rattle.fms64.proofs.negatives.Goals as goal

pub returns : goal.returns
returns c = from_fn-table (λ l. negated binary64 (get_or c.args.ts.now l 0)) (λ i y q h k. search rules) c.from_fn.ensures.items
