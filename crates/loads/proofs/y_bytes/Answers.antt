use mathlib.Core.Path.{sym, ◌∙◌}
use mathlib.Core.Bool.{true}
use Prim.Native.Nat.{◌%◌}
use Rattle.number.specs.Bytes.{table}
use Rattle.loads.proofs.Bytes.{none_left, all_left}
use Rattle.loads.proofs.y_bytes.Goals as goal

pub returns-then-blank : goal.returns-then-blank
unfolding table
returns-then-blank c =
    let a = c.args in
    none_left true a.generation a.op a.state.now (a.v % 4) a.skip c.blank.ensures c.if-blank.true

pub returns-then-indexes : goal.returns-then-indexes
returns-then-indexes c =
    let a = c.args in
    all_left true a.generation a.op a.state.now (a.v % 4) a.skip c.blank.ensures
    c.if-blank.false (sym c.if-indexes.true ∙ c.indexes.ensures) c.indexed_bytes-named.ensures.0

pub returns : goal.returns
returns c =
    let a = c.args in
    all_left true a.generation a.op a.state.now (a.v % 4) a.skip c.blank.ensures
    c.if-blank.false (sym c.if-indexes.false ∙ c.indexes.ensures) c.plain_bytes.ensures
