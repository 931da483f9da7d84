-- The normal operand of vecfp has the operand's effect, and is its own normal operand.
-- Assumes nothing.
use mathlib.Core.Path.{◌≡◌, refl, sym, ap, ◌∙◌, subst}
use mathlib.Core.Bool.{Bool, true, false, cond, not, ◌&&◌, ◌||◌}
use mathlib.Core.List.{List}
use Prim.Native.Nat.{ℕ, ◌+◌, ◌*◌, ◌/◌, ◌%◌, ◌^◌}
use lib.Dec.{T, eqb}
use lib.Ieee.{binary32, binary64}
use lib.Pow.{mod-mod-pow}
use Rattle.number.specs.Bytes.{number}
use Rattle.isa.specs.Operand.{bits, bit}
use Rattle.isa.specs.State.{x_base, y_base, lanes_of, loaded}
use Rattle.isa.specs.Enable.{vecint_enables}
use Rattle.isa.specs.Vecint as Vecint
use Rattle.isa.specs.Vecfp as Vecfp
use Rattle.isa.specs.Normal.{Ignored, vecfp_ignored_if, vecfp_ignored, cleared_all}
use Rattle.number.proofs.Tests.{two, pick_true, pick_false}
use Rattle.isa.proofs.Clear.{clear_of_all, separate, bits-same, twice}
use Rattle.isa.proofs.NormalVectors as Vectors

module _ (gen op : ℕ) where
  abbrev entries : List Ignored
  entries = vecfp_ignored gen op

  abbrev pub kept : ℕ
  kept = cleared_all entries op

  pub same : (j k : ℕ) → T (clear_of_all j k entries) → bits kept j k ≡ bits op j k
  same j k t = bits-same entries op j k t

  -- ---- fields

  pub mode-same : Vecint.mode kept ≡ Vecint.mode op
  unfolding Vecint.mode
  mode-same = λ t. cond (eqb (same 53 53 tt t) 1) 0 (same 47 52 tt t)

  format-same : Vecfp.format_of kept ≡ Vecfp.format_of op
  unfolding Vecfp.format_of
  format-same = λ t. cond (eqb (same 42 45 tt t) 4) binary32 binary64

  pub not-covered-same : Vecfp.not_covered kept ≡ Vecfp.not_covered op
  unfolding Vecfp.not_covered
  not-covered-same = λ t.
      eqb (same 53 53 tt t) 1 || not (Vecfp.covered_mode (mode-same t)) || not (Vecfp.covered_width (same 42 45 tt t)) || not (eqb (same 27 30 tt t) 0)

  -- ---- several vectors

  later_same : eqb gen 1 ≡ false → bits kept 31 31 ≡ bits op 31 31
  later_same e = same 31 31 (rw e tt)

  four_same : bits kept 25 25 ≡ bits op 25 25
  four_same = same 25 25 tt

  broadcast-same : bits kept 32 34 ≡ bits op 32 34
  broadcast-same = same 32 34 (below (Vecint.several gen op))
    where
      below : (s : Bool) → T (clear_of_all 32 34 (vecfp_ignored_if (eqb gen 1) s (bit op 25)))
      below true = tt
      below false = tt

  enable-same : Vecint.several gen op ≡ false → bits kept 38 40 ≡ bits op 38 40
  enable-same one = same 38 40 (rw one tt)

  value_same : Vecint.several gen op ≡ false → Vecfp.enable_value kept ≡ Vecfp.enable_value op
  value_same one = same 32 36 (rw one tt)

  several-same : Vecint.several gen kept ≡ Vecint.several gen op
  several-same = Vectors.several-same gen op kept later_same four_same broadcast-same enable-same

  stride-same : Vecint.stride gen kept ≡ Vecint.stride gen op
  stride-same = Vectors.stride-same gen op kept later_same four_same broadcast-same enable-same

  broadcasts-same : (a b : ℕ) → Vecint.broadcasts gen kept a b ≡ Vecint.broadcasts gen op a b
  broadcasts-same = Vectors.broadcasts-same gen op kept later_same four_same broadcast-same enable-same

  -- ---- places

  Same-row : ℕ → Type 0
  Same-row n = Vecint.z_row kept % n ≡ Vecint.z_row op % n

  -- the low d bits of the Z row, of which r higher ones do not count
  low_same : (r d : ℕ) → kept / 2 ^ 20 % 2 ^ d ≡ op / 2 ^ 20 % 2 ^ d → kept / 2 ^ 20 % 2 ^ (r + d) % 2 ^ d ≡ op / 2 ^ 20 % 2 ^ (r + d) % 2 ^ d
  low_same r d e = mod-mod-pow (kept / 2 ^ 20) r d ∙ e ∙ sym (mod-mod-pow (op / 2 ^ 20) r d)

  -- one vector, two, four: the bits of Z row that count
  row_same : Same-row (Vecint.stride gen op)
  unfolding Vecint.stride Same-row bits
  row_same =
      two (Vecint.several gen op) (Same-row (Vecint.stride gen op))
      (λ s. two (bit op 25) (Same-row (Vecint.stride gen op))
      (λ f. subst Same-row (sym (pick_true _ _ s ∙ pick_true _ _ f)) (low_same 2 4 (same 20 23 tt)))
      (λ f. subst Same-row (sym (pick_true _ _ s ∙ pick_false _ _ f)) (low_same 1 5 (same 20 24 (rw (s, f) tt)))))
      (λ s. subst Same-row (sym (pick_false _ _ s)) (low_same 0 6 (same 20 25 (rw s tt))))

  writes-same : Vecfp.writes gen kept ≡ Vecfp.writes gen op
  unfolding Vecfp.writes Same-row
  writes-same = λ t row. eqb (row % stride-same t) ((ap (λ (n : ℕ). Vecint.z_row kept % n) stride-same ∙ row_same) t)

  enabled-same : (l : ℕ) → Vecfp.enabled gen kept l ≡ Vecfp.enabled gen op l
  unfolding Vecfp.enabled
  enabled-same l =
      Vectors.enabled-same gen op kept later_same four_same broadcast-same enable-same _ _
      (λ one. λ t. vecint_enables (lanes_of (Vecfp.width (format-same t))) (enable-same one t) (value_same one t) l)

  on_same : Vecfp.on gen kept ≡ Vecfp.on gen op
  unfolding Vecfp.on
  on_same = λ t row l. writes-same t row && enabled-same l t

  -- ---- what X and Y give

  overrides-same : (value mode : ℕ) → Vecfp.overrides gen kept value mode ≡ Vecfp.overrides gen op value mode
  unfolding Vecfp.overrides
  overrides-same = Vectors.overrides-same gen op kept later_same four_same broadcast-same enable-same _ _ value_same

  x_index-same : Vecfp.x_index gen kept ≡ Vecfp.x_index gen op
  unfolding Vecfp.x_index
  x_index-same = λ t l. cond (broadcasts-same 6 6 t) 0 l

  y_index-same : Vecfp.y_index gen kept ≡ Vecfp.y_index gen op
  unfolding Vecfp.y_index
  y_index-same = λ t l.
      cond (broadcasts-same 7 7 t) 0
      (Vectors.fixed_same gen op kept later_same four_same broadcast-same enable-same (Vecfp.enable_value kept % Vecfp.lanes kept)
      (Vecfp.enable_value op % Vecfp.lanes op) l l (λ one. λ i. value_same one i % lanes_of (Vecfp.width (format-same i))) refl t)

  x_of-same : Vecfp.x_of gen kept ≡ Vecfp.x_of gen op
  unfolding Vecfp.x_of Vecfp.x_bytes Vecfp.x_offset
  x_of-same = λ t xy v l.
      let b : ℕ = Vecfp.width (format-same t) in
      number b (λ i. cond (overrides-same 4 4 t) 0 (loaded xy x_base (same 10 18 tt t + cond (broadcasts-same 2 6 t) 0 (64 * v)) i)) (b * x_index-same t l)

  y_of-same : Vecfp.y_of gen kept ≡ Vecfp.y_of gen op
  unfolding Vecfp.y_of Vecfp.y_bytes Vecfp.y_offset
  y_of-same = λ t xy v l.
      let b : ℕ = Vecfp.width (format-same t) in
      number b (λ i. cond (overrides-same 5 5 t) 0 (loaded xy y_base (same 0 8 tt t + cond (broadcasts-same 3 7 t) 0 (64 * v)) i)) (b * y_index-same t l)

  -- ---- the effect

  result-same : Vecfp.result gen kept ≡ Vecfp.result gen op
  unfolding Vecfp.result
  result-same = λ t xy v l z.
      cond (overrides-same 3 1 t) 0 (Vecfp.alu (format-same t) (mode-same t) (x_of-same t xy v l) (y_of-same t xy v l) z)

  pub vecfp-same : Vecfp.vecfp gen kept ≡ Vecfp.vecfp gen op
  vecfp-same = λ t. record {
    width = Vecfp.width (format-same t);
    on = on_same t;
    new = λ xy row l z. result-same t xy (row / stride-same t) l z;
    adds = false;
  }

  -- ---- twice

  entries-separate : T (separate entries)
  entries-separate = go (eqb gen 1) (Vecint.several gen op) (bit op 25)
    where
      go : (m s f : Bool) → T (separate (vecfp_ignored_if m s f))
      go true true true = tt
      go true true false = tt
      go true false f = tt
      go false true true = tt
      go false true false = tt
      go false false f = tt

  pub vecfp-twice : cleared_all (vecfp_ignored gen kept) kept ≡ kept
  vecfp-twice = (λ t. cleared_all (vecfp_ignored_if (eqb gen 1) (several-same t) (eqb (four_same t) 1)) kept) ∙ twice entries op entries-separate
