-- A loop over the vectors of a step: what it keeps, and that it ends in the step's effect.
-- Assumes nothing.
use Rattle.std.proofs.Common.{◌≡◌, ℕ, ◌+◌, ◌-◌, ◌*◌, ◌/◌, ◌%◌, ◌<◌, ◌≤◌, Bool, false, cond, ◌&&◌, ◌||◌, ◌⊎◌, List, length, take, sym, refl, ap, ◌∙◌}
use Rattle.std.proofs.Common.{subst, inl, inr, ⊎_elim, zero-mul, arith}
use Rattle.number.specs.Bytes.{span, byte_at, number}
use Rattle.number.specs.Integers.{wrap}
use Rattle.number.proofs.Tests.{true_false, lt_or_le}
use Rattle.isa.specs.State.{lanes_of, start}
use Rattle.isa.specs.Effect.{Effect, new_lane, applied}
use Rattle.isa.specs.Vecint as Vecint
use Rattle.operand.proofs.Widths.{z_width_cases, stride-cases}
use Rattle.operand.proofs.Rows.{by_rows, by-spacing, rows-after, rows_before, row-of-vector, row-among, row_written, row-unwritten}
use Rattle.state.specs.Rows.{among, dealt}
use Rattle.state.proofs.Holds.{Bytes, lane_after, Holds}
use Rattle.state.proofs.RunLoop.{among-yes}
use Rattle.state.proofs.RowsLoop.{Below, rows_start, rows_more, rows_end}
use Rattle.vecint.specs.Vectors.{first_row, vector_effect}

-- lanes of Z fill a row
pub z_fits : (op : ℕ) → lanes_of (Vecint.z_width op) * Vecint.z_width op ≡ 64
z_fits op = by_rows (λ b. lanes_of b * b ≡ 64) refl refl refl (z_width_cases op)

module _ (gen op : ℕ) (s₀ : List ℕ) where
  abbrev b : ℕ
  b = Vecint.z_width op

  abbrev m : ℕ
  m = lanes_of b

  abbrev E : Effect
  E = Vecint.vecint gen op

  -- the vectors before v are done
  abbrev pub VectorsTo : ℕ → List ℕ → Type 0
  VectorsTo v t = Holds b m (z_fits op) s₀ t (Below E m (z_fits op) s₀ (v * Vecint.stride gen op))

  pub vectors-none : length s₀ ≡ 5120 → VectorsTo 0 s₀
  vectors-none size =
      subst (λ (n : ℕ). Holds b m (z_fits op) s₀ s₀ (Below E m (z_fits op) s₀ n)) (sym (zero-mul (Vecint.stride gen op))) (rows_start E m (z_fits op) s₀ size)

  abbrev lanes_on : ℕ → Bool
  lanes_on k = Vecint.several gen op || Vecint.masked op k

  -- the rows of vector v
  here : (v r l : ℕ) → first_row gen op v ≤ r → r < first_row gen op v + Vecint.rows_each op
      → lane_after (vector_effect gen op v s₀) s₀ r l ≡ lane_after E s₀ r l
  unfolding new_lane Vecint.on Vecint.k_of
  here v r l h h' =
      let place : r - first_row gen op v ≡ r % Vecint.rows_each op = sym (row-among gen op v r h h') in
      let written = among-yes (first_row gen op v) (Vecint.rows_each op) r h h' ∙ sym (row_written gen op v r h h') in
      let vector = sym (row-of-vector gen op v r h h') in
      λ i. cond (written i && lanes_on (l * Vecint.rows_each op + place i))
      (wrap (span b) (Vecint.result gen op (take 1024 s₀) (vector i) (l * Vecint.rows_each op + place i) (number b (byte_at s₀) (start b r l))) % span b)
      (number b (byte_at s₀) (start b r l))

  -- the rows between them
  outside : (v r l : ℕ) → v * Vecint.stride gen op ≤ r → r < (v + 1) * Vecint.stride gen op
      → among (first_row gen op v) (Vecint.rows_each op) r ≡ false → E.on r l ≡ false
  unfolding Vecint.on
  outside v r l h h' f = ap (λ (w : Bool). w && lanes_on (Vecint.k_of op r l)) (row-unwritten gen op v r h h' beyond)
    where
      beyond : (r < first_row gen op v) ⊎ (first_row gen op v + Vecint.rows_each op ≤ r)
      beyond =
          ⊎_elim (λ low. inl low)
          (λ high.
          ⊎_elim
          (λ inside. absurd (true_false (sym (among-yes (first_row gen op v) (Vecint.rows_each op) r high inside) ∙ f)))
          (λ past. inr past)
          (lt_or_le r (first_row gen op v + Vecint.rows_each op)))
          (lt_or_le r (first_row gen op v))

  pub vectors-more : (v : ℕ) (t u : List ℕ) → VectorsTo v t → u ≡ applied (vector_effect gen op v t) t → VectorsTo (v + 1) u
  unfolding new_lane
  vectors-more v t u held eu =
      rows_more E m (z_fits op) s₀ _ _ false (first_row gen op v) (Vecint.rows_each op) (v * Vecint.stride gen op) ((v + 1) * Vecint.stride gen op) t u
      (rows-after gen op v) (rows_before gen op v) (λ r l f. ap (λ (w : Bool). w && lanes_on (l * Vecint.rows_each op + (r - first_row gen op v))) f)
      (λ r l h h' hl. here v r l h h')
      (λ r l h h' f. outside v r l h h' f)
      held
      (eu
      ∙ (λ i. applied (dealt b (first_row gen op v) (Vecint.rows_each op) lanes_on (λ k z. wrap (span b) (Vecint.result gen op (held.xy i) v k z))) t))

  pub vectors-all : (v : ℕ) (t : List ℕ) → 64 / Vecint.stride gen op ≤ v → length s₀ ≡ 5120 → Bytes s₀ → Bytes t → VectorsTo v t → t ≡ applied E s₀
  vectors-all v t h = rows_end E m (z_fits op) s₀ (v * Vecint.stride gen op) t all-rows
    where
      all-rows : 64 ≤ v * Vecint.stride gen op
      all-rows = by-spacing (λ s. 64 / s ≤ v → 64 ≤ v * s) (λ l. omega arith) (λ l. omega arith) (λ l. omega arith) (stride-cases gen op) h
