-- What is counted of a list's patterns.
-- Assumes nothing.
use Rattle.std.proofs.Common.{◌≡◌, ℕ, ◌+◌, ◌≤◌, List, subst, ⊎_elim, not-suc-le-zero, get_or, arith}
use Rattle.std.specs.Float.{Format}
use Rattle.number.proofs.Tests.{lt_or_le}
use Rattle.float.specs.Floats.{Finite}
use Rattle.lanes.specs.Lanes.{AllFinite}

-- those before i are finite, where none was counted
abbrev pub Counted : Format → List ℕ → ℕ → ℕ → Type 0
Counted f xs i special = (special ≤ i) × (special ≡ 0 → AllFinite f xs i)

pub counted_none : (f : Format) (xs : List ℕ) → Counted f xs 0 0
counted_none f xs = (omega arith, λ e l h. absurd (not-suc-le-zero h))

pub counted-more : (f : Format) (xs : List ℕ) (i special one : ℕ) → one ≤ 1 → (one ≡ 0 → Finite f (get_or xs i 0)) → Counted f xs i special
    → Counted f xs (i + 1) (special + one)
counted-more f xs i special one h is (most, all) = (
  omega arith,
  λ e l k. ⊎_elim (λ before. all (omega (arith, e)) l before)
      (λ last. subst (λ (x : ℕ). Finite f (get_or xs x 0)) (omega (arith, last)) (is (omega (arith, e)))) (lt_or_le l i),
)
