use mathlib.Core.Path.{ap, ◌∙◌}
use native.Mathlib.Omega.{arith}
use borrow.Author.Rules.{sfits_of}
use Prim.Native.Nat.{ℕ, ◌+◌, ◌/◌, ◌%◌, ◌^◌}
use lib.IntN.{ℤ, nat_abs}
use mir.Syntax.{w64}
use mir.Facts.{to_z-of_z, to_z_pos}
use Rattle.number.specs.Integers.{◌≫◌}
use Rattle.sides.proofs.Kept.{shifted_up}
use Rattle.sides.proofs.unsigned_moved.Goals as goal

pub overflow_cast-result : goal.overflow_cast-result
overflow_cast-result c =
    let a = c.args in
    let n : ℕ = a.v + c.unsigned_rounding.result in
    let up =
    shifted_up n (a.shift.by % 32) c.shifted.result (omega arith)
    (c.shifted.ensures.0 ∙ ap (λ (z : ℤ). z ≫ (a.shift.by % 32)) (to_z_pos w64 {n = n} (omega arith)))
    in
    rw (to_z-of_z {w = w64} (sfits_of c.shifted.type_inv)) (up.0, record { fits = up.1 })

pub returns : goal.returns
returns c =
    let a = c.args in
    ap nat_abs {y = c.shifted.result} (to_z-of_z {w = w64} (sfits_of c.shifted.type_inv))
    ∙ (shifted_up (a.v + c.unsigned_rounding.result) (a.shift.by % 32) c.shifted.result (omega arith)
    (c.shifted.ensures.0 ∙ ap (λ (z : ℤ). z ≫ (a.shift.by % 32)) (to_z_pos w64 {n = (a.v + c.unsigned_rounding.result)} (omega arith)))).2
    ∙ ap (λ (k : ℕ). (a.v + k) / 2 ^ (a.shift.by % 32)) c.unsigned_rounding.ensures.0
