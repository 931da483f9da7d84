-- What the code does with a row in mode 4 is what is meant by the vector.
-- Assumes nothing.
use Rattle.std.proofs.Common.{◌≡◌, ℕ, ◌*◌, ◌%◌, ◌<◌, Bool, true, false, cond, ◌||◌, eqb, List, length, get_or, take, ℤ, pos, ◌+ℤ◌, sym, refl, ap, ◌∙◌}
use Rattle.std.proofs.Common.{mod-eq_of_lt, zero-add, arith, eq-eqb}
use Rattle.number.specs.Bytes.{span}
use Rattle.number.specs.Integers.{wrap, read, ◌≫◌, half_unit, clamp_signed, clamp_unsigned}
use Rattle.number.proofs.Bytes.{get_d-table}
use Rattle.number.proofs.Tests.{pick_true}
use Rattle.isa.specs.Operand.{bits, bit}
use Rattle.isa.specs.State.{lanes_of}
use Rattle.isa.specs.Effect.{applied}
use Rattle.isa.specs.Vecint as Vecint
use Rattle.operand.proofs.Fields.{bits-lt}
use Rattle.operand.proofs.Rows.{by_rows}
use Rattle.operand.proofs.Widths.{z_width_cases, saturation_cases, rows-reducing}
use Rattle.std.specs.Prelude.{Some, None}
use Rattle.reduction.specs.declared.Range.{Range}
use Rattle.reduction.specs.declared.Reduce.{Reduce}
use Rattle.reduction.specs.Reduction.{width_in, clamp_by, value_of, reduce_to}
use Rattle.state.specs.Rows.{one_row, dealt}
use Rattle.state.proofs.Holds.{Bytes}
use Rattle.state.proofs.Dealing.{dealt-same, one-dealt}
use Rattle.vecint.specs.Vectors.{first_row, vector_effect, vecint_mask, reduce_by}
use Rattle.vecint.proofs.VectorsLoop.{z_fits}

-- the widths that there are
z_in : (op : ℕ) → width_in (Vecint.z_width op) ≡ Vecint.z_width op
z_in op = by_rows (λ b. width_in b ≡ b) refl refl refl (z_width_cases op)

saturation_in : (op : ℕ) → width_in (Vecint.reduction op).saturation ≡ (Vecint.reduction op).saturation
saturation_in op = by_rows (λ b. width_in b ≡ b) refl refl refl (saturation_cases op)

shift-lt : (op : ℕ) → Vecint.shift op % 32 ≡ Vecint.shift op
unfolding Vecint.shift
shift-lt op = mod-eq_of_lt (by (Vecint.saturates op))
  where
    by : (b : Bool) → cond b 15 (bits op 58 62) < 32
    by true = omega arith
    by false = bits-lt op 58 62

-- a range, if there is one
if-clamped : (b : Bool) (to : Range) (v : ℤ) → clamp_by (cond b (Some to) None) v ≡ cond b (clamp_by (Some to) v) v
if-clamped true to v = refl
if-clamped false to v = refl

-- the number that a lane receives
lane-reduced : (gen op : ℕ) (xy : List ℕ) (v k z : ℕ) → Vecint.reduces op ≡ true
    → reduce_to (Vecint.z_width op) (reduce_by gen op) z ≡ wrap (span (Vecint.z_width op)) (Vecint.result gen op xy v k z)
unfolding reduce_to value_of Vecint.result Vecint.reduced
lane-reduced gen op xy v k z is =
    ap (λ (r : ℤ). wrap (span (Vecint.z_width op)) (cond (Vecint.forces_zero gen op) (pos 0) r)) (if-clamped (bit op 30) _ _)
    ∙ (λ i. wrap (span (Vecint.z_width op)) (cond (Vecint.forces_zero gen op) (pos 0)
    (cond (bit op 30)
    (cond (bit op 26) (clamp_signed (saturation_in op i) (moved (shift-lt op i))) (clamp_unsigned (saturation_in op i) (moved (shift-lt op i))))
    (moved (shift-lt op i)))))
    ∙ ap (λ (r : ℤ). wrap (span (Vecint.z_width op)) (cond (Vecint.forces_zero gen op) (pos 0) r)) (sym (pick_true _ _ is))
  where
    moved : ℕ → ℤ
    moved s = (read (bit op 63) (Vecint.z_width op) z +ℤ cond (bit op 29) (half_unit s) (pos 0)) ≫ s

module _ (gen op v : ℕ) (s : List ℕ) (size : length s ≡ 5120) (small : Bytes s) (is : Vecint.reduces op ≡ true) where
  pub reduce-meant : (t : List ℕ) (row b : ℕ) (on : List Bool) (how : Reduce) → row ≡ first_row gen op v → b ≡ Vecint.z_width op → on ≡ vecint_mask
      gen op → how ≡ reduce_by gen op
      → t ≡ cond (eqb (length s) 5120) (applied (one_row (width_in b) row (λ l. get_or on l false) (λ l. reduce_to (width_in b) how)) s) s
      → t ≡ applied (vector_effect gen op v s) s
  reduce-meant t row b on how er eb eo eh et =
      et ∙ pick_true _ _ (eq-eqb (length s) 5120 size)
      ∙ (λ i. applied (one_row (width i) (er i) (λ l. get_or (eo i) l false) (λ l. reduce_to (width i) (eh i))) s)
      ∙ one-dealt z m (z_fits op) (first_row gen op v) 1 s size small (λ l. get_or (vecint_mask gen op) l false) (λ l. reduce_to z (reduce_by gen op))
      ∙ dealt-same z m (z_fits op) (first_row gen op v) 1 s size small (λ l. get_or (vecint_mask gen op) l false) mask (λ l. reduce_to z (reduce_by gen op))
      (λ k n. wrap (span z) (Vecint.result gen op (take 1024 s) v k n))
      (λ k h. get_d-table mask false 0 64 k (few k h) ∙ ap mask (zero-add k))
      (λ k h n hn. lane-reduced gen op (take 1024 s) v k n is)
      ∙ (λ i. applied (dealt z (first_row gen op v) (sym (rows-reducing op is) i) mask (λ k n. wrap (span z) (Vecint.result gen op (take 1024 s) v k n))) s)
    where
      z : ℕ
      z = Vecint.z_width op

      m : ℕ
      m = lanes_of (Vecint.z_width op)

      mask : ℕ → Bool
      mask k = Vecint.several gen op || Vecint.masked op k

      width : width_in b ≡ z
      width = ap width_in eb ∙ z_in op

      few : (k : ℕ) → k < m * 1 → k < 64
      few k = by_rows (λ b. k < lanes_of b * 1 → k < 64) (λ h. omega arith) (λ h. omega arith) (λ h. omega arith) (z_width_cases op)
