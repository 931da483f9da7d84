-- The elements of an array by their patterns.
-- Assumes nothing.
use Rattle.std.proofs.Common.{◌≡◌, ℕ, ◌<◌, List, length, map, subst, get_or, arith}
use Rattle.std.proofs.lemmas.List.{get_or-map}
use Rattle.std.specs.Float.{Format}
use Rattle.float.specs.Floats.{Finite}
use Rattle.lanes.specs.Lanes.{AllFinite}

-- an element is finite where all are
pub element-finite : {A : Type 0} (f : Format) (p : A → ℕ) (a : List A) {n : ℕ} → length a ≡ n → AllFinite f (map p a) n → (l : ℕ) → l < n → (d : A)
    → Finite f (p (get_or a l d))
element-finite f p a ha all l h d = subst (Finite f) (get_or-map p a l d 0 (omega (arith, h, ha))) (all l h)
