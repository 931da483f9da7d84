-- An array of d that a loop fills from its start on, and may leave as it is from some element on.
-- Assumes nothing.
use mathlib.Core.Path.{◌≡◌, refl, sym, ◌∙◌, subst}
use mathlib.Core.List.{List}
use mathlib.Core.Logic.{⊎_elim}
use Prim.Native.Nat.{ℕ, zero, suc, ◌+◌, ◌≤◌, ◌<◌}
use native.Mathlib.Nat.{not-suc-le-zero}
use native.Mathlib.Omega.{arith}
use lib.ListN.{length, get_or, set, replicate}
use lib.Seq.{get_or-set_same, get_or-set_other}
use Rattle.number.specs.Bytes.{table}
use Rattle.number.proofs.Fill.{fill-all}
use Rattle.number.proofs.Tests.{lt_or_le}

-- the first i elements have P, the others are d
abbrev pub Begun : {A : Type 0} → A → (ℕ → A → Type 0) → List A → ℕ → Type 0
Begun d P out i = ((k : ℕ) → k < i → P k (get_or out k d)) × ((k : ℕ) → i ≤ k → get_or out k d ≡ d)

get_d_same : {A : Type 0} (n : ℕ) (d : A) (j : ℕ) → get_or (replicate n d) j d ≡ d
get_d_same zero d j = refl
get_d_same (suc n) d zero = refl
get_d_same (suc n) d (suc j) = get_d_same n d j

module _ {A : Type 0} (d : A) (P : ℕ → A → Type 0) where
  pub begun-none : (n : ℕ) → Begun d P (replicate n d) 0
  begun-none n = (λ k h. absurd (not-suc-le-zero h), λ k h. get_d_same n d k)

  pub begun_more : (i : ℕ) (v : A) (out : List A) → i < length out → P i v → Begun d P out i → Begun d P (set out i v) (i + 1)
  begun_more i v out h p old = (made, λ k l. get_or-set_other out i k v d (λ same. omega (arith, same)) ∙ old.1 k (omega arith))
    where
      made : (k : ℕ) → k < i + 1 → P k (get_or (set out i v) k d)
      made k l =
          ⊎_elim
          (λ before. subst (P k) (sym (get_or-set_other out i k v d (λ same. omega (arith, same, before)))) (old.0 k before))
          (λ here.
          let at : i ≡ k = omega (arith, l, here) in
          subst (λ (j : ℕ). P j (get_or (set out i v) j d)) at (subst (P i) (sym (get_or-set_same out i v d h)) p))
          (lt_or_le k i)

pub begun_all : {A : Type 0} (d : A) (f : ℕ → A) (n i : ℕ) (out : List A) → length out ≡ n → ((k : ℕ) → i ≤ k → k < n → f k ≡ d)
    → Begun d (λ k v. v ≡ f k) out i → out ≡ table f 0 n
begun_all d f n i out size rest old =
    fill-all d f n n out size (omega arith)
    (λ k l. ⊎_elim (old.0 k) (λ more. old.1 k more ∙ sym (rest k more l)) (lt_or_le k i))
