-- Every instruction is lawful: their lanes fill a row, and a call that is said to only add does.
-- Assumes nothing.
use mathlib.Core.Path.{◌≡◌, refl, sym, ap, ◌∙◌}
use mathlib.Core.Bool.{Bool, true, false, cond, not}
use Prim.Native.Nat.{ℕ, ◌+◌, ◌%◌}
use native.Mathlib.Nat.{mod-mod}
use lib.Dec.{eqb}
use borrow.Author.Tests.{eqb-true, not-true}
use lib.IntN.{ℤ, neg_ℤ, ◌+ℤ◌, ◌*ℤ◌}
use Rattle.number.specs.Bytes.{span}
use Rattle.number.specs.Integers.{signed, wrap, ◌≫◌}
use Rattle.number.proofs.Modular.{adds_modulo}
use Rattle.isa.specs.Operand.{bits, bit}
use lib.Ieee.{Format, binary32, binary64}
use Rattle.isa.specs.Effect.{Fills, OnlyAdds}
use Rattle.isa.specs.Mac16 as Mac16
use Rattle.isa.specs.Vecint as Vecint
use Rattle.isa.specs.Vecfp as Vecfp
use Rattle.isa.specs.Call.{Call, Instruction, mac16, vecint, vecfp, fms64, other, instruction_of, effect_by, effect_of}
use Rattle.number.proofs.Tests.{true_false, is_false, and_left, and_right, pick_false, either}

-- ---- widths

one : Fills 1
one = (64, refl)

half : Fills 2
half = (32, refl)

word : Fills 4
word = (16, refl)

pub double : Fills 8
double = (8, refl)

pub mac16-fills : (form : Mac16.Form) → Fills (Mac16.z_width form)
mac16-fills Mac16.vector = half
mac16-fills Mac16.matrix16 = half
mac16-fills Mac16.matrix32 = word

widths-fill : (n : ℕ) → Fills (Vecint.widths_by n).z
unfolding Vecint.widths_by
widths-fill n =
    let Z : Vecint.Widths → Type 0 = λ w. Fills w.z in
    either Z (eqb n 3) word (either Z (eqb n 10) word (either Z (eqb n 11) half (either Z (eqb n 12) word (either Z (eqb n 13) word half))))

reduction-fills : (n : ℕ) → Fills (Vecint.reduction_by n).z
unfolding Vecint.reduction_by
reduction-fills n =
    let Z : Vecint.Reduction → Type 0 = λ w. Fills w.z in
    either Z (eqb n 3) word (either Z (eqb n 4) word (either Z (eqb n 9) one (either Z (eqb n 10) word (either Z (eqb n 11) half half))))

pub vecint-fills : (op : ℕ) → Fills (Vecint.z_width op)
unfolding Vecint.z_width Vecint.widths
vecint-fills op =
    either Fills (Vecint.reduces op) (reduction-fills (bits op 42 45))
    (either (λ (w : Vecint.Widths). Fills w.z) (Vecint.saturates op) half (widths-fill (bits op 42 45)))

pub vecfp-fills : (f : Format) → Fills (Vecfp.width f)
vecfp-fills binary32 = word
vecfp-fills binary64 = double

fills-by : (i : Instruction) (gen op : ℕ) → Fills (effect_by i gen op).width
fills-by mac16 gen op = mac16-fills (Mac16.form_of op)
fills-by vecint gen op = vecint-fills op
fills-by vecfp gen op = vecfp-fills (Vecfp.format_of op)
fills-by fms64 gen op = double
fills-by other gen op = one

pub fills : (c : Call) → Fills (effect_of c).width
fills c = fills-by (instruction_of c) c.generation c.operand

-- ---- what only adds

-- v added to a lane's signed number, at any width
lane-adds : (b : ℕ) (v : ℤ) (z : ℕ) → wrap (span b) (signed b z +ℤ v) % span b ≡ (z + wrap (span b) v) % span b
lane-adds b v z = ap (λ (x : ℕ). x % span b) (adds_modulo b z v) ∙ mod-mod (z + wrap (span b) v) (span b)

mac16-result : (skip : Bool) → not skip ≡ true → (b : ℕ) (v : ℤ) (z : ℕ) → Mac16.result skip b v z % span b ≡ (z + wrap (span b) v) % span b
unfolding Mac16.result
mac16-result false t b v z = lane-adds b v z
mac16-result true t b v z = absurd (true_false (sym t))

mac16-adds : (op : ℕ) → (Mac16.mac16 op).adds ≡ true → OnlyAdds (Mac16.mac16 op)
mac16-adds op t xy row lane =
    let form : Mac16.Form = Mac16.form_of op in
    let v : ℤ = Mac16.shifted op (Mac16.x_lane op xy (Mac16.i_of form row lane)) (Mac16.y_lane op xy (Mac16.j_of form row lane)) in
    (wrap (span (Mac16.z_width form)) v, mac16-result (bit op 27) t (Mac16.z_width form) v)

-- a function of z adds a number that is not z's to say
abbrev AddsTo : (ℤ → ℤ) → Type 0
AddsTo f = (d : ℤ) × ((z : ℤ) → f z ≡ z +ℤ d)

-- a row of the table of modes
row : (b : Bool) {f g : ℤ → ℤ} → (b ≡ true → AddsTo f) → AddsTo g → AddsTo (λ z. cond b (f z) (g z))
row true f g = f refl
row false f g = g

alu-adds : (m s : ℕ) (x y : ℤ) → Vecint.adding_mode m ≡ true → AddsTo (Vecint.alu m s x y)
unfolding Vecint.alu
alu-adds m s x y t =
    row (eqb m 0) (λ e. (((x *ℤ y) ≫ s), λ z. refl))
    (row (eqb m 1) (λ e. (neg_ℤ ((x *ℤ y) ≫ s), λ z. refl))
    (row (eqb m 2) (λ e. (((x +ℤ y) ≫ s), λ z. refl))
    (row (eqb m 3) (λ e. (neg_ℤ ((x +ℤ y) ≫ s), λ z. refl))
    (row (eqb m 5) (λ e. absurd (other 5 refl e))
    (row (eqb m 6) (λ e. absurd (other 6 refl e))
    (row (eqb m 10) (λ e. absurd (other 10 refl e))
    (row (eqb m 11) (λ e. ((x ≫ s), λ z. refl))
    ((y ≫ s), λ z. refl))))))))
  where
    other : (k : ℕ) → Vecint.adding_mode k ≡ false → eqb m k ≡ true → ⊥
    other k f e = true_false (sym t ∙ ap Vecint.adding_mode (eqb-true m k e) ∙ f)

vecint-adds : (gen op : ℕ) → (Vecint.vecint gen op).adds ≡ true → OnlyAdds (Vecint.vecint gen op)
unfolding Vecint.result
vecint-adds gen op t xy row lane =
    let m : ℕ = Vecint.mode op in
    let w : ℕ = Vecint.z_width op in
    let v : ℕ = Vecint.vector_of gen op row in
    let k : ℕ = Vecint.k_of op row lane in
    let adding : Vecint.adding_mode m ≡ true = and_left (Vecint.adding_mode m) (not (Vecint.forces_zero gen op)) t in
    let kept : Vecint.forces_zero gen op ≡ false = not-true (Vecint.forces_zero gen op)
    (and_right (Vecint.adding_mode m) (not (Vecint.forces_zero gen op)) t) in
    let four : eqb m 4 ≡ false = is_false (eqb m 4) (λ e. true_false (sym adding ∙ ap Vecint.adding_mode (eqb-true m 4 e))) in
    let d : AddsTo (Vecint.alu m (Vecint.shift op) (Vecint.x_of gen op xy v k) (Vecint.y_of gen op xy v k)) =
    alu-adds m (Vecint.shift op) (Vecint.x_of gen op xy v k) (Vecint.y_of gen op xy v k) adding
    in (
      wrap (span w) d.0,
      λ z.
          ap (λ (r : ℤ). wrap (span w) r % span w) (pick_false _ _ kept ∙ pick_false _ _ four ∙ d.1 (signed w z)) ∙ lane-adds w d.0 z,
    )

-- "no float step counts as adding", and no call of another number does
added-by : (i : Instruction) (gen op : ℕ) → (effect_by i gen op).adds ≡ true → OnlyAdds (effect_by i gen op)
added-by mac16 gen op t = mac16-adds op t
added-by vecint gen op t = vecint-adds gen op t
added-by vecfp gen op t = absurd (true_false (sym t))
added-by fms64 gen op t = absurd (true_false (sym t))
added-by other gen op t = absurd (true_false (sym t))

pub added : (c : Call) → (effect_of c).adds ≡ true → OnlyAdds (effect_of c)
added c = added-by (instruction_of c) c.generation c.operand
