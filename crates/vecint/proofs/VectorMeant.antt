-- What the code does with the terms of a vector is what is meant by the vector.
-- Assumes nothing.
use Rattle.std.proofs.Common.{◌≡◌, ℕ, ◌+◌, ◌*◌, ◌/◌, ◌%◌, ◌^◌, ◌<◌, ◌≤◌, Bool, true, false, cond, ◌||◌, eqb, ◌⊎◌, List, length, get_or, take, ℤ, sym}
use Rattle.std.proofs.Common.{refl, ap, ◌∙◌, subst, inl, inr, mul_comm, zero-add, arith}
use lib.Signed.{mag}
use Rattle.number.specs.Bytes.{span, table}
use Rattle.number.specs.Integers.{signed, wrap}
use Rattle.number.proofs.Bytes.{get_d-table}
use Rattle.number.proofs.Range.{mag-signed}
use Rattle.number.proofs.Tests.{pick_true, true_false}
use Rattle.isa.specs.State.{lanes_of}
use Rattle.isa.specs.Effect.{applied}
use Rattle.isa.specs.Vecint as Vecint
use Rattle.operand.proofs.Widths.{z_width_two_or_four, z_width_not_reducing, stride-cases}
use Rattle.operand.proofs.Rows.{by-spacing, rows-in-z, first-row-of}
use Rattle.state.specs.Rows.{dealt}
use Rattle.state.proofs.Holds.{Bytes}
use Rattle.state.proofs.Dealing.{dealt-same}
use Rattle.vecint.specs.declared.Alu.{Alu}
use Rattle.vecint.specs.Accumulation.{z_bytes, z_lanes, accumulated, accumulate}
use Rattle.vecint.specs.Modes.{alu_of, cleared, alu_by, term_by, outcome}
use Rattle.vecint.specs.Vectors.{first_row, vector_lanes, vector_effect, HoldsTerms}
use Rattle.vecint.proofs.Bounds.{fits, few-lanes}
use Rattle.vecint.proofs.KeptTerms.{kept-is}
use Rattle.vecint.proofs.Ranges.{outcome-is, x-small, y-small, term-small, term-whole}
use Rattle.vecint.proofs.Results.{result-is}

-- ---- widths

-- as the code tests the width of Z
by_wide : {b : ℕ} → (b ≡ 2) ⊎ (b ≡ 4) → z_bytes (eqb b 4) ≡ b
by_wide (inl e) = subst (λ (b : ℕ). z_bytes (eqb b 4) ≡ b) (sym e) refl
by_wide (inr e) = subst (λ (b : ℕ). z_bytes (eqb b 4) ≡ b) (sym e) refl

row-lanes : (wide : Bool) → z_lanes wide ≡ lanes_of (z_bytes wide)
row-lanes true = refl
row-lanes false = refl

lane-small : (wide : Bool) (z : ℕ) → z < span (z_bytes wide) → mag (signed (z_bytes wide) z) < 2 ^ 40
lane-small true z h = omega (arith, mag-signed 4 z h)
lane-small false z h = omega (arith, mag-signed 2 z h)

-- only lanes of 16 bits are clamped
narrow : (gen op : ℕ) → Vecint.reduces op ≡ false → (alu_by gen op).clamps ≡ true → eqb (Vecint.z_width op) 4 ≡ false
unfolding alu_by Vecint.widths
narrow gen op not c =
    ap (λ (b : ℕ). eqb b 4) (z_width_not_reducing op not ∙ ap (λ (w : Vecint.Widths). w.z) (pick_true _ _ (saturating (Vecint.forces_zero gen op) c)))
  where
    saturating : (b : Bool) → (cond b cleared (alu_of (Vecint.mode op))).clamps ≡ true → Vecint.saturates op ≡ true
    saturating true e = absurd (true_false (sym e))
    saturating false e = e

-- and their terms are shifted by 15
fifteen : (gen op : ℕ) → (alu_by gen op).clamps ≡ true → Vecint.shift op ≡ 15
unfolding alu_by Vecint.shift
fifteen gen op c = pick_true _ _ (saturating (Vecint.forces_zero gen op) c)
  where
    saturating : (b : Bool) → (cond b cleared (alu_of (Vecint.mode op))).clamps ≡ true → Vecint.saturates op ≡ true
    saturating true e = absurd (true_false (sym e))
    saturating false e = e

-- ---- the vector

pub few-vectors : (gen op v : ℕ) → v < 64 / Vecint.stride gen op → v < 4
few-vectors gen op v = by-spacing (λ s. v < 64 / s → v < 4) (λ h. omega arith) (λ h. omega arith) (λ h. omega arith) (stride-cases gen op)

module _ (gen op v : ℕ) (s : List ℕ) (size : length s ≡ 5120) (small : Bytes s) (not : Vecint.reduces op ≡ false) where
  width : z_bytes (eqb (Vecint.z_width op) 4) ≡ Vecint.z_width op
  width = by_wide (z_width_two_or_four op not)

  -- the rows of a vector hold its lanes
  pub all_lanes : z_lanes (eqb (Vecint.z_width op) 4) * Vecint.rows_each op ≡ vector_lanes op
  all_lanes =
      mul_comm (z_lanes (eqb (Vecint.z_width op) 4)) (Vecint.rows_each op)
      ∙ ap (λ (m : ℕ). Vecint.rows_each op * m) (row-lanes (eqb (Vecint.z_width op) 4) ∙ ap lanes_of width)

  -- what lane k receives
  lane-meant : (ts : List ℤ) → HoldsTerms gen op s v (alu_by gen op) ts → (k : ℕ) → k < vector_lanes op → (z : ℕ) → z < span
      (z_bytes (eqb (Vecint.z_width op) 4))
      → accumulate (eqb (Vecint.z_width op) 4) (alu_by gen op) ts k z ≡ wrap (span (z_bytes (eqb (Vecint.z_width op) 4)))
      (Vecint.result gen op (take 1024 s) v k z)
  lane-meant ts held k hk z hz =
      ap (λ (t : ℤ). wrap (span b) (accumulated w how Z t)) (held k hk)
      ∙ kept-is w how Z T (λ c. term-whole how (Vecint.shift op) (x k) (y k) (fifteen gen op c) hx hy)
      ∙ ap (wrap (span b))
      (outcome-is w how Z T (narrow gen op not) (lane-small w z hz) (term-small how (Vecint.shift op) (x k) (y k) hx hy)
      ∙ ap (λ (n : ℕ). outcome how (signed n z) T) width
      ∙ sym (result-is gen op (take 1024 s) v k z not))
    where
      w : Bool
      w = eqb (Vecint.z_width op) 4

      b : ℕ
      b = z_bytes (eqb (Vecint.z_width op) 4)

      how : Alu
      how = alu_by gen op

      Z : ℤ
      Z = signed (z_bytes (eqb (Vecint.z_width op) 4)) z

      x : ℕ → ℤ
      x k = Vecint.x_of gen op (take 1024 s) v k

      y : ℕ → ℤ
      y k = Vecint.y_of gen op (take 1024 s) v k

      T : ℤ
      T = term_by (alu_by gen op) (Vecint.shift op) (Vecint.x_of gen op (take 1024 s) v k) (Vecint.y_of gen op (take 1024 s) v k)

      hx : mag (Vecint.x_of gen op (take 1024 s) v k) < 65536
      hx = x-small gen op s v k small

      hy : mag (Vecint.y_of gen op (take 1024 s) v k) < 65536
      hy = y-small gen op s v k small

  pub vector-meant : (t : List ℕ) (w : Bool) (base c : ℕ) (on : List Bool) (how : Alu) (ts : List ℤ)
      → w ≡ eqb (Vecint.z_width op) 4 → base ≡ first_row gen op v → c ≡ Vecint.rows_each op → on ≡ table (λ k. Vecint.several gen op || Vecint.masked op k) 0 64
      → how ≡ alu_by gen op → HoldsTerms gen op s v how ts
      → t ≡ applied (dealt (z_bytes w) base c (λ k. get_or on k false) (accumulate w how ts)) s → t ≡ applied (vector_effect gen op v s) s
  vector-meant t w base c on how ts ew eb ec eo eh held et =
      et
      ∙ (λ i. applied (dealt (z_bytes (ew i)) (eb i) (ec i) (λ k. get_or (eo i) k false) (accumulate (ew i) (eh i) ts)) s)
      ∙ dealt-same (z_bytes wide) (z_lanes wide) (fits wide) (first_row gen op v) (Vecint.rows_each op) s size small
      (λ k. get_or (table mask 0 64) k false) mask
      (accumulate wide (alu_by gen op) ts)
      (λ k z. wrap (span (z_bytes wide)) (Vecint.result gen op (take 1024 s) v k z))
      (λ k h. get_d-table mask false 0 64 k (in_list k h) ∙ ap mask (zero-add k))
      (λ k h z hz. lane-meant ts (subst (λ (a : Alu). HoldsTerms gen op s v a ts) eh held) k (of-vector k h) z hz)
      ∙ (λ i.
      let new : ℕ → ℕ → ℕ = λ k z. wrap (span (width i)) (Vecint.result gen op (take 1024 s) v k z) in
      applied (dealt (width i) (first_row gen op v) (Vecint.rows_each op) mask new) s)
    where
      wide : Bool
      wide = eqb (Vecint.z_width op) 4

      mask : ℕ → Bool
      mask k = Vecint.several gen op || Vecint.masked op k

      of-vector : (k : ℕ) → k < z_lanes (eqb (Vecint.z_width op) 4) * Vecint.rows_each op → k < vector_lanes op
      of-vector k = subst (λ (n : ℕ). k < n) all_lanes

      in_list : (k : ℕ) → k < z_lanes (eqb (Vecint.z_width op) 4) * Vecint.rows_each op → k < 64
      in_list k h = omega (arith, of-vector k h, few-lanes op)

  pub rows_fit : (base c : ℕ) (w : Bool) → v < 64 / Vecint.stride gen op
      → base ≡ v % 4 * Vecint.stride gen op + Vecint.z_row op % Vecint.stride gen op / Vecint.rows_each op * Vecint.rows_each op
      → c ≡ Vecint.rows_each op → w ≡ eqb (Vecint.z_width op) 4 → (base + c ≤ 64) × (z_lanes w * c ≤ 64)
  rows_fit base c w hv eb ec ew = (
    omega (arith, rows-in-z gen op v hv, eb, ec, first-row-of gen op v hv),
    subst (λ (n : ℕ). n ≤ 64) (sym ((λ i. z_lanes (ew i) * ec i) ∙ all_lanes)) (few-lanes op),
  )
