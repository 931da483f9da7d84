-- What an operation means, by its kind, and lists of patterns.
-- Assumes nothing.
use Rattle.std.specs.Prelude.{Bool, true, false, List, ℕ, ◌<◌, get_or}
use Rattle.std.specs.Float.{Format}
use Rattle.float.specs.Floats.{Finite, added, subtracted, multiplied, selected}
use Rattle.lanes.specs.declared.Kind.{Kind}
use Rattle.lanes.specs.declared.Kind.TheVariants.{Sum, Difference, Product, Choice}

abbrev pub meaning_of : Kind → Format → ℕ → ℕ → ℕ
meaning_of Sum = added
meaning_of Difference = subtracted
meaning_of Product = multiplied
meaning_of Choice = selected

-- whether the second has to be finite too, for no result to be a NaN
abbrev pub asks_both : Kind → Bool
asks_both Sum = true
asks_both Difference = true
asks_both Product = true
asks_both Choice = false

-- the first n of a list are neither infinite nor NaNs
abbrev pub AllFinite : Format → List ℕ → ℕ → Type 0
AllFinite f xs n = (l : ℕ) → l < n → Finite f (get_or xs l 0)

-- an operation on the patterns of two lists, lane by lane
abbrev pub each : (ℕ → ℕ → ℕ) → List ℕ → List ℕ → ℕ → ℕ
each op xs ys l = op (get_or xs l 0) (get_or ys l 0)
