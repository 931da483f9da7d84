-- Lanes of X and Y and their terms are far from the ends of an i64, so that the saturating modes keep all of a sum.
-- Assumes nothing.
use Rattle.std.proofs.Common.{◌≡◌, ℕ, zero, suc, ◌+◌, ◌/◌, ◌^◌, ◌<◌, Bool, true, false, cond, ◌⊎◌, List, [], ◌∷◌, take, ℤ, pos, negsuc, ◌+ℤ◌, ◌*ℤ◌}
use Rattle.std.proofs.Common.{neg_ℤ, sym, refl, ap, ◌∙◌, subst, inl, inr, arith}
use lib.Signed.{mag, shr_z, mag_shr}
use Rattle.number.specs.Bytes.{span}
use Rattle.number.specs.Integers.{read, kept, clamp_signed}
use Rattle.number.proofs.Range.{kept_same, mag-add, mag-mul, mag-read}
use Rattle.number.proofs.Tests.{two, pick_false}
use Rattle.isa.specs.Operand.{bit}
use Rattle.isa.specs.Vecint as Vecint
use Rattle.operand.proofs.Widths.{x_cases, y_cases}
use Rattle.sides.specs.Sides.{term_of}
use Rattle.state.proofs.Holds.{Bytes}
use Rattle.state.proofs.RunLoop.{number_lt}
use Rattle.vecint.specs.declared.Alu.{Alu}
use Rattle.vecint.specs.Accumulation.{summed, clamped_sum, accumulated}
use Rattle.vecint.specs.Modes.{term_by, outcome}

-- ---- sums that are kept whole

mag-neg : (v : ℤ) {n : ℕ} → mag v < n → mag (neg_ℤ v) < suc n
mag-neg (pos zero) h = omega arith
mag-neg (pos (suc n)) h = omega arith
mag-neg (negsuc n) h = omega arith

abbrev Small : ℤ → Type 0
Small v = mag v < 2 ^ 40

module _ (z t : ℤ) (hz : Small z) (ht : Small t) where
  turned : kept 8 (neg_ℤ t) ≡ neg_ℤ t
  turned = kept_same 8 (neg_ℤ t) (omega (arith, mag-neg t ht))

  whole : (keeps negates : Bool) → cond keeps (kept 8 (z +ℤ cond negates (kept 8 (neg_ℤ t)) t)) t ≡ cond keeps (z +ℤ cond negates (neg_ℤ t) t) t
  whole false negates = refl
  whole true false = kept_same 8 (z +ℤ t) (omega (arith, mag-add z t hz ht))
  whole true true =
      ap (λ (u : ℤ). kept 8 (z +ℤ u)) turned
      ∙ kept_same 8 (z +ℤ neg_ℤ t) (omega (arith, mag-add z (neg_ℤ t) hz (mag-neg t ht)))

-- what the code does with a term is the outcome
pub outcome-is : (wide : Bool) (how : Alu) (z t : ℤ) → (how.clamps ≡ true → wide ≡ false) → Small z → Small t → accumulated wide how z t ≡ outcome how z t
unfolding accumulated outcome clamped_sum summed
outcome-is true how z t narrow hz ht =
    two how.clamps (accumulated true how z t ≡ outcome how z t)
    (λ c. absurd (subst (λ (b : Bool). cond b (ℤ) ⊥) (narrow c) (pos 0)))
    (λ c. sym (pick_false _ _ c))
outcome-is false how z t narrow hz ht =
    ap (λ (v : ℤ). cond how.clamps (clamp_signed 2 v) (summed how z t)) (whole z t hz ht how.keeps how.negates)

-- ---- lanes and terms

two_bytes : {b : ℕ} → (b ≡ 1) ⊎ (b ≡ 2) → (sign : Bool) (n : ℕ) → n < span b → mag (read sign b n) < 65536
two_bytes {b} (inl e) sign n h = omega (arith, mag-read sign b n h, ap span e)
two_bytes {b} (inr e) sign n h = omega (arith, mag-read sign b n h, ap span e)

take-small : (n : ℕ) (s : List ℕ) → Bytes s → Bytes (take n s)
take-small zero s small p = omega arith
take-small (suc n) [] small p = omega arith
take-small (suc n) (x ∷ s) small zero = small 0
take-small (suc n) (x ∷ s) small (suc p) = take-small n s (λ q. small (suc q)) p

-- a byte of a side, whether its load is indexed or not, is one of X or Y, or 0
side-small : (override indexed : Bool) (n r b : ℕ) (xy : List ℕ) (base from i : ℕ) → Bytes xy
    → cond override 0 (Vecint.side_byte indexed n r b xy base from i) < 256
unfolding Vecint.side_byte Vecint.picked
side-small true indexed n r b xy base from i small = omega arith
side-small false true n r b xy base from i small = small _
side-small false false n r b xy base from i small = small _

module _ (gen op : ℕ) (s : List ℕ) (v k : ℕ) (small : Bytes s) where
  pub x-small : mag (Vecint.x_of gen op (take 1024 s) v k) < 65536
  unfolding Vecint.x_of Vecint.x_bytes
  x-small =
      let f : ℕ → ℕ = Vecint.x_bytes gen op (take 1024 s) v in
      two_bytes (x_cases op) (bit op 63) _
      (number_lt (Vecint.widths op).x f _ (λ i. side-small (Vecint.overrides gen op 4 4) _ _ _ _ _ _ _ i (take-small 1024 s small)))

  pub y-small : mag (Vecint.y_of gen op (take 1024 s) v k) < 65536
  unfolding Vecint.y_of Vecint.y_bytes
  y-small =
      let f : ℕ → ℕ = Vecint.y_bytes gen op (take 1024 s) v in
      two_bytes (y_cases op) (bit op 26) _
      (number_lt (Vecint.widths op).y f _ (λ i. side-small (Vecint.overrides gen op 5 5) _ _ _ _ _ _ _ i (take-small 1024 s small)))

skip_small : (skip : Bool) (x : ℤ) → mag x < 65536 → mag (cond skip (pos 0) x) < 65536
skip_small true x h = omega arith
skip_small false x h = h

-- a term before the shift
made : Alu → ℤ → ℤ → ℤ
made how x y =
    let x' : ℤ = cond how.skipx (pos 0) x in
    let y' : ℤ = cond how.skipy (pos 0) y in
    cond how.sums (x' +ℤ y') (x' *ℤ y') +ℤ cond how.clamps (pos 16384) (pos 0)

made-small : (how : Alu) (x y : ℤ) → mag x < 65536 → mag y < 65536 → mag (made how x y) < 2 ^ 33 + 16385
unfolding made
made-small how x y hx hy =
    mag-add (cond how.sums (x' +ℤ y') (x' *ℤ y')) (cond how.clamps (pos 16384) (pos 0)) (by how.sums) (half how.clamps)
  where
    x' : ℤ
    x' = cond how.skipx (pos 0) x

    y' : ℤ
    y' = cond how.skipy (pos 0) y

    by : (b : Bool) → mag (cond b (x' +ℤ y') (x' *ℤ y')) < 2 ^ 33
    by true = omega (arith, mag-add x' y' (skip_small how.skipx x hx) (skip_small how.skipy y hy))
    by false = omega (arith, mag-mul x' y' (skip_small how.skipx x hx) (skip_small how.skipy y hy))

    half : (b : Bool) → mag (cond b (pos 16384) (pos 0)) < 16385
    half true = omega arith
    half false = omega arith

mag-shift : (v : ℤ) (m : ℕ) → mag (shr_z v m) ≡ mag v / m
mag-shift (pos n) m = refl
mag-shift (negsuc n) m = refl

pub term-small : (how : Alu) (s : ℕ) (x y : ℤ) → mag x < 65536 → mag y < 65536 → Small (term_by how s x y)
unfolding term_of made
term-small how s x y hx hy = omega (arith, made-small how x y hx hy, mag_shr (made how x y) (2 ^ s))

-- a term that is shifted by 15 is kept whole in 4 bytes
pub term-whole : (how : Alu) (s : ℕ) (x y : ℤ) → s ≡ 15 → mag x < 65536 → mag y < 65536 → kept 4 (term_by how s x y) ≡ term_by how s x y
unfolding term_of made
term-whole how s x y e hx hy =
    ap (λ (n : ℕ). kept 4 (term_by how n x y)) e
    ∙ kept_same 4 (term_by how 15 x y) (omega (arith, made-small how x y hx hy, mag-shift (made how x y) (2 ^ 15)))
    ∙ ap (λ (n : ℕ). term_by how n x y) (sym e)
