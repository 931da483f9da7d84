use mathlib.Core.Path.{ap, ap₂, ◌∙◌}
use Prim.Native.Nat.{◌%◌}
use lib.IntN.{ℤ}
use mir.Facts.{to_z-of_z}
use mir.Syntax.{w64}
use borrow.Author.Rules.{sfits_of}
use Rattle.number.specs.Bytes.{span}
use Rattle.number.specs.Integers.{wrap, ◌≫◌}
use Rattle.mac16.specs.Products.{term}
use Rattle.mac16.proofs.term.Goals as goal

pub returns : goal.returns
unfolding term
returns g c =
    let b = g.T.Lane.BYTES in
    c.wrapped.ensures
    ∙ ap (wrap (span b)) (to_z-of_z {w = w64} (sfits_of c.shifted.type_inv) ∙ c.shifted.ensures.0)
    ∙ ap (λ (v : ℤ). wrap (span b) (v ≫ (c.args.s % 32))) (to_z-of_z {w = w64} (sfits_of c.product16.type_inv) ∙ c.product16.ensures.0)
    ∙ ap₂ (λ (x y : ℤ). term b (c.args.s % 32) x y) (to_z-of_z c.ranges.x) (to_z-of_z c.ranges.y)
