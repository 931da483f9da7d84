use Prim.Native.Nat.{◌%◌}
use lib.IntN.{◌+ℤ◌}
use mathlib.Core.Path.{ap₂, ◌∙◌}
use mathlib.Core.Bool.{true}
use borrow.Author.Rules.{sfits_of}
use mir.Facts.{to_z-of_z}
use Rattle.number.specs.Integers.{read}
use Rattle.sides.proofs.Kept.{kept-term}
use mir.Syntax.{w32}
use Rattle.sides.proofs.sum_term.Goals as goal

pub returns : goal.returns
returns c =
    let a = c.args in
    to_z-of_z {w = w32} (sfits_of c.moved.type_inv) ∙ kept-term true a.shift.rounds (a.shift.by % 32) (read a.xsigned 2 a.x) (read a.ysigned 2 a.y) _
    c.moved.result c.moved.type_inv (to_z-of_z {w = w32} (sfits_of c.lane_sum.type_inv) ∙ c.lane_sum.ensures.0
    ∙ ap₂ ◌+ℤ◌ (to_z-of_z {w = w32} (sfits_of c.lane32.type_inv) ∙ c.lane32.ensures.0)
    (to_z-of_z {w = w32} (sfits_of c.lane32-2.type_inv) ∙ c.lane32-2.ensures.0)) c.moved.ensures
