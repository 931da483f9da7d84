-- The mask of widths 12 and 13, and of the others.
-- Assumes nothing.
use mathlib.Core.Path.{◌≡◌, refl, sym, ap, subst, ◌∙◌}
use mathlib.Core.Bool.{Bool, true, false, cond, not, ◌&&◌, ◌||◌}
use mathlib.Core.List.{map}
use mathlib.Core.Logic.{inl}
use Prim.Native.Nat.{ℕ, ◌+◌, ◌*◌, ◌/◌, ◌%◌}
use native.Mathlib.Omega.{arith}
use native.Mathlib.Nat.{div-one}
use lib.Arith.{mod-mul}
use lib.Dec.{eqb, lit<}
use borrow.Author.Tests.{eqb-true}
use Rattle.isa.specs.Operand.{bits}
use Rattle.isa.specs.State.{lanes_of}
use Rattle.isa.specs.Effect.{touches, sum, lanes_on}
use Rattle.isa.specs.Enable.{mac16_enables, vecint_enables}
use Rattle.isa.specs.Mac16 as Mac16
use Rattle.isa.specs.Vecint as Vecint
use Rattle.isa.specs.Call.{effect_of}
use Rattle.isa.specs.Answers.{own_answer, is_done}
use Rattle.isa.specs.Step.{done}
use Rattle.isa.specs.Edges.{Edge}
use Rattle.isa.specs.Guards.{Pin}
use Rattle.isa.specs.MixedWidths.{masked_by_x, EqualWidthsStay, mixed, OnlyMixedDiffer, lane_pins, count_pins}
use Rattle.isa.specs.MixedWidths.{odd_lanes, OddAnswered, stored_product, SwapAllowed, NoSwapBefore}
use Rattle.number.proofs.Tests.{true_false, two, either, and_left, and_right, pick_true, pick_false}
use Rattle.isa.proofs.Places.{vecint-only}
use Rattle.isa.proofs.Step.{own-due}
use Rattle.isa.proofs.Guards.{by-lanes, InRow, apart-rows, vector_row}

-- ---- lanes

pub lanes-pinned : map (λ (p : Edge). p.gives) lane_pins ≡ map (λ (p : Edge). p.says) lane_pins
unfolding bits vecint_enables Vecint.mode Vecint.widths_by Vecint.widths Vecint.rows_each Vecint.stride Vecint.k_of Vecint.writes Vecint.masked Vecint.on
lanes-pinned = refl

pub counts_pinned : map (λ (p : Pin). p.gives) count_pins ≡ map (λ (p : Pin). p.says) count_pins
unfolding bits sum vecint_enables
    Vecint.mode Vecint.widths_by Vecint.widths Vecint.rows_each Vecint.stride Vecint.k_of Vecint.writes Vecint.masked Vecint.on
counts_pinned = refl

pub odd_answered : OddAnswered
unfolding bits sum lanes_on vecint_enables
    Vecint.mode Vecint.widths_by Vecint.widths Vecint.z_width Vecint.rows_each Vecint.stride Vecint.k_of Vecint.writes Vecint.masked Vecint.on
odd_answered = by-lanes odd_lanes

-- ---- nothing else moved

-- with equal widths both sides' masks are one
pub both_equal : (w : Vecint.Widths) → w.x ≡ w.y → (enable value k : ℕ)
    → Vecint.both_allow w enable value k ≡ Vecint.allows w w.x enable value k
both_equal w same enable value k =
    let side : ℕ → Bool = λ b. Vecint.allows w b enable value k in
    ap (λ (b : ℕ). side w.x && side b) (sym same) ∙ and_same (side w.x)
  where
    and_same : (b : Bool) → b && b ≡ b
    and_same true = refl
    and_same false = refl

pub equal_widths_stay : EqualWidthsStay
unfolding Vecint.masked masked_by_x
equal_widths_stay op same k =
    ap (cond (Vecint.reduces op) (vecint_enables (lanes_of (Vecint.z_width op)) (Vecint.enable_mode op) (Vecint.enable_value op) k))
    (both_equal (Vecint.widths op) same (Vecint.enable_mode op) (Vecint.enable_value op) k)

or_false : (a b : Bool) → a || b ≡ false → (a ≡ false) × (b ≡ false)
or_false true b e = absurd (true_false e)
or_false false b e = (refl, e)

-- outside mode 4, other widths than 12 and 13 are equal
equal_widths : (op : ℕ) → Vecint.reduces op ≡ false → mixed op ≡ false → (Vecint.widths op).x ≡ (Vecint.widths op).y
unfolding Vecint.widths Vecint.widths_by
equal_widths op reads e =
    two (Vecint.saturates op) (Same (Vecint.widths op))
    (λ t. subst Same (sym (pick_true _ _ t)) refl)
    (λ f.
    let n : ℕ = bits op 42 45 in
    let others : (eqb n 12 ≡ false) × (eqb n 13 ≡ false) =
    or_false (eqb n 12) (eqb n 13) (sym (λ i. not (reads i) && (not (f i) && (eqb n 12 || eqb n 13))) ∙ e)
    in
    subst Same (sym (pick_false _ _ f))
    (either Same (eqb n 3) refl (either Same (eqb n 10) refl (either Same (eqb n 11) refl
    (subst Same (sym (pick_false _ _ others.0 ∙ pick_false _ _ others.1)) refl)))))
  where
    Same : Vecint.Widths → Type 0
    Same w = w.x ≡ w.y

pub only_mixed_differ : OnlyMixedDiffer
unfolding Vecint.masked masked_by_x
only_mixed_differ op e k =
    two (Vecint.reduces op) (Vecint.masked op k ≡ masked_by_x op k)
    (λ t. pick_true _ _ t ∙ sym (pick_true _ _ t))
    (λ f. equal_widths_stay op (equal_widths op f e) k)

-- ---- a swap

odd_of_odd : (k : ℕ) → k / 1 % 2 ≡ 1 → k / 2 % 2 ≡ 1 → k % 4 ≡ 3
odd_of_odd k x y =
    let digits : k % 4 ≡ k / 2 % 2 * 2 + k % 2 = mod-mul k (lit< tt) (lit< tt) in
    omega (arith, digits, div-one k)

odd_row : InRow odd_lanes 3
unfolding bits vecint_enables Vecint.mode Vecint.widths_by Vecint.widths Vecint.rows_each Vecint.stride Vecint.masked Vecint.on
odd_row row lane t =
    let op : ℕ = odd_lanes.operand in
    let k : ℕ = Vecint.k_of op row lane in
    let x : Bool = eqb (k / 1 % 2) 1 in
    let y : Bool = eqb (k / 2 % 2) 1 in
    let both : x && y ≡ true = and_right (Vecint.writes 1 op row) (x && y) t in
    let at : row ≡ row / 64 * 64 + (0 + k % 4) = (vecint-only 1 op row lane t).0 in
    let third : k % 4 ≡ 3 = odd_of_odd k (eqb-true _ 1 (and_left x y both)) (eqb-true _ 1 (and_right x y both)) in
    omega (arith, at, third)

product_row : InRow stored_product 1
unfolding bits
product_row row lane t = omega (arith, vector_row stored_product.operand refl row lane t)

pub swap_allowed : SwapAllowed
swap_allowed s left = ((left, inl (apart-rows s odd_lanes stored_product 3 1 odd_row product_row (λ e. omega (arith, e)))), tt)

pub no_swap_before : NoSwapBefore
unfolding bits touches masked_by_x mac16_enables vecint_enables own_answer Mac16.on
    Vecint.mode Vecint.widths_by Vecint.widths Vecint.z_width Vecint.rows_each Vecint.stride Vecint.k_of Vecint.writes
no_swap_before s size left =
    let own : done s stored_product ≡ true = ap is_done (own-due stored_product s size (omega (arith, left size))) in record {
      first = refl;
      second = ap (λ (b : Bool). b && touches (effect_of stored_product) 1088) own;
      not-adding = ap (λ (b : Bool). b && (effect_of stored_product).adds) own;
    }
