-- An array that a closure makes, element by element.
-- Assumes nothing.
use Rattle.std.proofs.Common.{◌≡◌, ℕ, zero, suc, ◌+◌, ◌<◌, ◌≤◌, List, [], ◌∷◌, length, map, refl, sym, ap, ◌∙◌, subst, zero-add, ⊎_elim, get_or, ext_get_or, arith}
use Rattle.std.proofs.lemmas.List.{length-map, get_or-map}
use Rattle.std.specs.Array.{IsFromFnResult, IsFromFnResultFrom}
use Rattle.std.specs.Fn.{Mut, Called}
use Rattle.number.specs.Bytes.{table}
use Rattle.number.proofs.Bytes.{length-table, get_d-table}
use Rattle.number.proofs.Tests.{lt_or_le}

module _ {F A : Type 0} {g : Mut F (ℕ × Unit {0}) A} {f : F} {n : ℕ} (P : ℕ → A → Type 0) (gives : (i : ℕ) (y : A) (q : F) → i < n → Called g f (i, tt) y q → (q ≡ f) × P i y) where
  -- m calls from i on
  made : (ys : List A) (m i : ℕ) (p : F) → p ≡ f → i + m ≤ n → IsFromFnResultFrom g p ys i m
      → (d : A) (j : ℕ) → i ≤ j → j < i + m → P j (get_or ys j d)
  made ys zero i p same inside none d j low high = absurd (omega (arith, low, high))
  made ys (suc m) i p same inside (q, y, here, called, rest) d j low high =
      let c = gives i y q (omega (arith, inside)) (subst (λ (k : F). Called g k (i, tt) y q) same called) in
      ⊎_elim
      (λ first.
      let at : j ≡ i = omega (arith, first, low) in
      subst (λ (k : ℕ). P k (get_or ys k d)) (sym at) (subst (P i) (sym (here.1 d)) c.1))
      (λ later. made ys m (i + 1) q c.0 (omega (arith, inside)) rest d j later (omega (arith, high)))
      (lt_or_le j (i + 1))

  -- Where a call at i leaves the closure as it was and what it gives has P, each element has it.
  pub from_fn-each : {ys : List A} → IsFromFnResult g f ys n → (d : A) (j : ℕ) → j < n → P j (get_or ys j d)
  from_fn-each {ys} result d j inside = made ys n 0 f refl (omega arith) result.each d j (omega arith) (omega (arith, inside))

module _ {F A : Type 0} {g : Mut F (ℕ × Unit {0}) A} {f : F} {n : ℕ} (h : ℕ → A) where
  -- Where it gives h i, the array is a table of h.
  pub from_fn-table : {ys : List A} → ((i : ℕ) (y : A) (q : F) → i < n → Called g f (i, tt) y q → (q ≡ f) × (y ≡ h i)) → IsFromFnResult g f ys n → ys ≡ table h 0 n
  from_fn-table {ys} gives result =
      ext_get_or (h 0) ys (table h 0 n) (result.long ∙ sym (length-table h 0 n)) at
    where
      at : (j : ℕ) → j < length ys → get_or ys j (h 0) ≡ get_or (table h 0 n) j (h 0)
      at j l =
          let inside : j < n = omega (arith, result.long) in
          from_fn-each (λ i y. y ≡ h i) gives result (h 0) j inside ∙ sym (get_d-table h (h 0) 0 n j inside ∙ ap h (zero-add j))

module _ {F A B : Type 0} {g : Mut F (ℕ × Unit {0}) A} {f : F} {n : ℕ} (p : A → B) (h : ℕ → B) where
  -- Where the number of what it gives at i is h i, the numbers of the array are a table of h.
  pub from_fn-map : (ys : List A) → ((i : ℕ) (y : A) (q : F) → i < n → Called g f (i, tt) y q → (q ≡ f) × (p y ≡ h i))
      → IsFromFnResult g f ys n → map p ys ≡ table h 0 n
  unfolding table
  from_fn-map [] gives result = subst (λ (k : ℕ). [] ≡ table h 0 k) result.long refl
  from_fn-map (x ∷ xs) gives result =
      ext_get_or (p x) (map p (x ∷ xs)) (table h 0 n) (length-map (x ∷ xs) p ∙ result.long ∙ sym (length-table h 0 n)) at
    where
      at : (j : ℕ) → j < length (map p (x ∷ xs)) → get_or (map p (x ∷ xs)) j (p x) ≡ get_or (table h 0 n) j (p x)
      at j l =
          let inside : j < n = omega (arith, l, length-map (x ∷ xs) p, result.long) in
          get_or-map p (x ∷ xs) j x (p x) (omega (arith, inside, result.long))
          ∙ from_fn-each (λ i y. p y ≡ h i) gives result x j inside
          ∙ sym (get_d-table h (p x) 0 n j inside ∙ ap h (zero-add j))
