-- The result of each mode is what one formula makes of it.
-- Assumes nothing.
use Rattle.std.proofs.Common.{◌≡◌, ℕ, ◌^◌, Bool, true, false, cond, not, ◌||◌, eqb, List, ℤ, pos, ◌+ℤ◌, ◌*ℤ◌, neg_ℤ, sym, refl, ap, ◌∙◌, subst, eqb-true}
use native.Mathlib.Nat.{zero-div}
use lib.IntN.{+ℤ_idl, +ℤ_idr}
use Rattle.number.specs.Integers.{signed, ◌≫◌, clamp_signed}
use Rattle.number.proofs.Tests.{two, pick_true, pick_false}
use Rattle.isa.specs.Vecint as Vecint
use Rattle.isa.specs.Vecint.{alu}
use Rattle.sides.specs.Sides.{term_of}
use Rattle.vecint.specs.declared.Alu.{Alu}
use Rattle.vecint.specs.Accumulation.{summed}
use Rattle.vecint.specs.Modes.{sums_in, y_alone, negates_in, alu_of, cleared, alu_by, term_by, outcome}

-- ---- the modes of the table

module _ (s : ℕ) (x y z : ℤ) where
  abbrev pub By : ℕ → Type 0
  By m = alu m s x y z ≡ outcome (alu_of m) z (term_by (alu_of m) s x y)

  -- nothing is added where the mode does not round
  plain : (v : ℤ) → v ≫ s ≡ (v +ℤ pos 0) ≫ s
  plain v = ap (λ (u : ℤ). u ≫ s) (sym (+ℤ_idr v))

  -- the rows of the table, and the last one for every other mode
  row-0 : By 0
  unfolding alu outcome summed term_of sums_in y_alone negates_in
  row-0 = ap (λ (t : ℤ). z +ℤ t) (plain (x *ℤ y))

  row-1 : By 1
  unfolding alu outcome summed term_of sums_in y_alone negates_in
  row-1 = ap (λ (t : ℤ). z +ℤ neg_ℤ t) (plain (x *ℤ y))

  row-2 : By 2
  unfolding alu outcome summed term_of sums_in y_alone negates_in
  row-2 = ap (λ (t : ℤ). z +ℤ t) (plain (x +ℤ y))

  row-3 : By 3
  unfolding alu outcome summed term_of sums_in y_alone negates_in
  row-3 = ap (λ (t : ℤ). z +ℤ neg_ℤ t) (plain (x +ℤ y))

  row-5 : s ≡ 15 → By 5
  unfolding alu outcome summed term_of sums_in y_alone negates_in
  row-5 e = ap (λ (n : ℕ). clamp_signed 2 (z +ℤ (((x *ℤ y) +ℤ pos 16384) ≫ n))) (sym e)

  row-6 : s ≡ 15 → By 6
  unfolding alu outcome summed term_of sums_in y_alone negates_in
  row-6 e = ap (λ (n : ℕ). clamp_signed 2 (z +ℤ neg_ℤ (((x *ℤ y) +ℤ pos 16384) ≫ n))) (sym e)

  row-10 : By 10
  unfolding alu outcome summed term_of sums_in y_alone negates_in
  row-10 = plain (x *ℤ y)

  row-11 : By 11
  unfolding alu outcome summed term_of sums_in y_alone negates_in
  row-11 = ap (λ (t : ℤ). z +ℤ t) (ap (λ (u : ℤ). u ≫ s) (sym (+ℤ_idr x)) ∙ plain (x +ℤ pos 0))

  others : (m : ℕ) → eqb m 0 ≡ false → eqb m 1 ≡ false → eqb m 2 ≡ false → eqb m 3 ≡ false → eqb m 5 ≡ false → eqb m 6 ≡ false → eqb m 10 ≡ false →
      eqb m 11 ≡ false → By m
  unfolding alu outcome summed term_of sums_in y_alone negates_in
  others m e0 e1 e2 e3 e5 e6 e10 e11 =
      rw (e0, e1, e2, e3, e5, e6, e10, e11) (ap (λ (t : ℤ). z +ℤ t) (ap (λ (u : ℤ). u ≫ s) (sym (+ℤ_idl y)) ∙ plain (pos 0 +ℤ y)))

  pub by_mode : (m : ℕ) → (eqb m 5 || eqb m 6 ≡ true → s ≡ 15) → By m
  by_mode m fifteen =
      is 0 row-0 λ e0. is 1 row-1 λ e1. is 2 row-2 λ e2. is 3 row-3 λ e3.
      if 5 (λ t. row-5 (fifteen (ap (λ (b : Bool). b || eqb m 6) t))) λ e5.
      if 6 (λ t. row-6 (fifteen (or_right (eqb m 5) t))) λ e6.
      is 10 row-10 λ e10. is 11 row-11 λ e11.
      others m e0 e1 e2 e3 e5 e6 e10 e11
    where
      or_right : (a : Bool) {b : Bool} → b ≡ true → a || b ≡ true
      or_right true e = refl
      or_right false e = e

      if : (n : ℕ) → (eqb m n ≡ true → By n) → (eqb m n ≡ false → By m) → By m
      if n here other = two (eqb m n) (By m) (λ t. subst By (sym (eqb-true m n t)) (here t)) other

      is : (n : ℕ) → By n → (eqb m n ≡ false → By m) → By m
      is n here = if n (λ t. here)

-- ---- an output that is forced to 0

nothing : (s : ℕ) (x y z : ℤ) → pos 0 ≡ outcome cleared z (term_by cleared s x y)
unfolding outcome summed term_of
nothing s x y z = sym (ap pos (zero-div (2 ^ s)))

-- the result of a lane, in all modes but 4
pub result-is : (gen op : ℕ) (xy : List ℕ) (v k z : ℕ) → Vecint.reduces op ≡ false
    → Vecint.result gen op xy v k z
    ≡ outcome (alu_by gen op) (signed (Vecint.z_width op) z) (term_by (alu_by gen op) (Vecint.shift op) (Vecint.x_of gen op xy v k) (Vecint.y_of gen op xy v k))
unfolding Vecint.result alu_by Vecint.shift
result-is gen op xy v k z not =
    ap (λ (r : ℤ). cond (Vecint.forces_zero gen op) (pos 0) r)
    (pick_false _ _ not ∙ by_mode (Vecint.shift op) x y Z (Vecint.mode op) (λ t. pick_true _ _ t))
    ∙ by (Vecint.forces_zero gen op)
  where
    x : ℤ
    x = Vecint.x_of gen op xy v k

    y : ℤ
    y = Vecint.y_of gen op xy v k

    Z : ℤ
    Z = signed (Vecint.z_width op) z

    F : Alu → ℤ
    F how = outcome how Z (term_by how (Vecint.shift op) x y)

    by : (b : Bool) → cond b (pos 0) (F (alu_of (Vecint.mode op))) ≡ F (cond b cleared (alu_of (Vecint.mode op)))
    by true = nothing (Vecint.shift op) x y Z
    by false = refl
