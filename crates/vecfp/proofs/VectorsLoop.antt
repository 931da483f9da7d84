-- A loop over the vectors of a step: what it keeps, and that it ends in the step's effect.
-- Assumes nothing.
use mathlib.Core.Path.{◌≡◌, sym, ap, ◌∙◌, subst}
use mathlib.Core.Bool.{Bool, false, cond, ◌&&◌}
use mathlib.Core.List.{List}
use Prim.Native.Nat.{ℕ, ◌+◌, ◌*◌, ◌/◌, ◌%◌, ◌≤◌, ◌<◌}
use native.Mathlib.Nat.{zero-mul}
use native.Mathlib.Omega.{arith}
use lib.ListN.{length, take}
use borrow.Author.Tests.{eq-eqb, ne_eqb}
use Rattle.number.specs.Bytes.{span, byte_at, number}
use Rattle.number.proofs.Tests.{true_false}
use Rattle.isa.specs.State.{start}
use Rattle.isa.specs.Effect.{Effect, new_lane, applied}
use Rattle.isa.specs.Vecint as Vecint
use Rattle.isa.specs.Vecfp as Vecfp
use Rattle.isa.specs.Vecfp.{width}
use Rattle.operand.proofs.Widths.{stride-cases}
use Rattle.operand.proofs.Rows.{by-spacing, given_below, next, row-vector, row_within}
use Rattle.state.specs.Rows.{among, one_row}
use Rattle.state.proofs.Holds.{Bytes, lane_after, Holds, bytes-applied}
use Rattle.state.proofs.RunLoop.{among-yes}
use Rattle.state.proofs.RowsLoop.{Below, rows_start, rows_more, rows_end}
use Rattle.vecfp.specs.Vectors.{row_of, lanes_in, vector_effect}
use Rattle.vecfp.proofs.Sides.{fits}

module _ (gen op : ℕ) (s₀ : List ℕ) where
  abbrev b : ℕ
  b = width (Vecfp.format_of op)

  abbrev m : ℕ
  m = lanes_in (Vecfp.format_of op)

  abbrev fit : m * b ≡ 64
  fit = fits (Vecfp.format_of op)

  abbrev stride : ℕ
  stride = Vecint.stride gen op

  abbrev given : ℕ
  given = Vecint.z_row op % stride

  abbrev E : Effect
  E = Vecfp.vecfp gen op

  -- the vectors before v are done
  abbrev VectorsTo : ℕ → List ℕ → Type 0
  VectorsTo v t = Holds b m fit s₀ t (Below E m fit s₀ (v * stride))

  vectors-none : length s₀ ≡ 5120 → VectorsTo 0 s₀
  vectors-none size =
      subst (λ (n : ℕ). Holds b m fit s₀ s₀ (Below E m fit s₀ n)) (sym (zero-mul stride)) (rows_start E m fit s₀ size)

  -- the row of vector v
  here : (v r l : ℕ) → row_of gen op v ≤ r → r < row_of gen op v + 1 → lane_after (vector_effect gen op v s₀) s₀ r l ≡ lane_after E s₀ r l
  unfolding new_lane Vecfp.on Vecfp.writes
  here v r l h h' =
      let from : v * stride ≤ r = omega arith in
      let to : r < (v + 1) * stride = omega (arith, next gen op v, given_below gen op v) in
      let same : r % stride ≡ given = omega (arith, row_within gen op v r from to) in
      let written = among-yes (row_of gen op v) 1 r h h' ∙ sym (eq-eqb (r % stride) given same) in
      let vector = sym (row-vector gen op v r from to) in
      let z : ℕ = number b (byte_at s₀) (start b r l) in
      λ i. cond (written i && Vecfp.enabled gen op l) (Vecfp.result gen op (take 1024 s₀) (vector i) l z % span b) z

  -- the rows between them
  outside : (v r l : ℕ) → v * stride ≤ r → r < (v + 1) * stride → among (row_of gen op v) 1 r ≡ false → E.on r l ≡ false
  unfolding Vecfp.on Vecfp.writes
  outside v r l h h' f =
      ap (λ (w : Bool). w && Vecfp.enabled gen op l)
      (ne_eqb (r % stride) given
      (λ e.
      true_false
      (sym (among-yes (row_of gen op v) 1 r (omega (arith, e, row_within gen op v r h h')) (omega (arith, e, row_within gen op v r h h'))) ∙ f)))

  vectors-more : (v : ℕ) (t u : List ℕ) → VectorsTo v t → u ≡ applied (vector_effect gen op v t) t → VectorsTo (v + 1) u
  unfolding new_lane
  vectors-more v t u held eu =
      rows_more E m fit s₀ _ _ false (row_of gen op v) 1 (v * stride) ((v + 1) * stride) t u
      (omega arith) (omega (arith, next gen op v, given_below gen op v)) (λ r l f. ap (λ (w : Bool). w && Vecfp.enabled gen op l) f)
      (λ r l h h' hl. here v r l h h')
      (λ r l h h' f. outside v r l h h' f)
      held
      (eu ∙ (λ i. applied (one_row b (row_of gen op v) (Vecfp.enabled gen op) (Vecfp.result gen op (held.xy i) v)) t))

  vectors-all : (v : ℕ) (t : List ℕ) → 64 / stride ≤ v → length s₀ ≡ 5120 → Bytes s₀ → Bytes t → VectorsTo v t → t ≡ applied E s₀
  vectors-all v t h = rows_end E m fit s₀ (v * stride) t all-rows
    where
      all-rows : 64 ≤ v * Vecint.stride gen op
      all-rows = by-spacing (λ s. 64 / s ≤ v → 64 ≤ v * s) (λ l. omega arith) (λ l. omega arith) (λ l. omega arith) (stride-cases gen op) h

-- what the loop keeps, of so many vectors
pub record Done (gen op : ℕ) (s₀ : List ℕ) (vectors v : ℕ) (t : List ℕ) : Type 0 where
  pub most : v ≤ vectors
  pub held : VectorsTo gen op s₀ v t
  pub bytes : Bytes t

module _ {gen op : ℕ} {s₀ : List ℕ} {vectors : ℕ} where
  pub done_none : length s₀ ≡ 5120 → Bytes s₀ → Done gen op s₀ vectors 0 s₀
  done_none size small = record { most = omega arith; held = vectors-none gen op s₀ size; bytes = small }

  module _ {v : ℕ} {t : List ℕ} (before : Done gen op s₀ vectors v t) where
    pub done_more : {u : List ℕ} → v < vectors → u ≡ applied (vector_effect gen op v t) t → Done gen op s₀ vectors (v + 1) u
    done_more {u} h eu = record {
      most = omega arith;
      held = vectors-more gen op s₀ v t u before.held eu;
      bytes = subst Bytes (sym eu) (bytes-applied (vector_effect gen op v t) t before.bytes);
    }

    pub done_all : vectors ≤ v → vectors ≡ 64 / Vecint.stride gen op → length s₀ ≡ 5120 → Bytes s₀ → t ≡ applied (Vecfp.vecfp gen op) s₀
    done_all h e size small = vectors-all gen op s₀ v t (subst (λ (n : ℕ). n ≤ v) e h) size small before.bytes before.held
