-- vecint's mask: by the mode, at one lane width, of both sides, and of a vector; vecfp's, by the same modes.
-- Assumes nothing.
use mathlib.Core.Path.{◌≡◌, refl, sym, ap, ap₂, subst, ◌∙◌}
use mathlib.Core.Bool.{Bool, true, false, cond, ◌&&◌, ◌||◌}
use Prim.Native.Nat.{ℕ, zero, suc, ◌≤◌}
use native.Mathlib.Nat.{div-one}
use native.Mathlib.Omega.{arith}
use lib.Bits.{bit_and}
use lib.Dec.{ltb, leb, eqb}
use borrow.Author.Tests.{ltb-false, leb-true, eqb-true, ne_eqb, le-leb}
use Rattle.number.proofs.Tests.{two, true_false, either, pick_true, pick_false}
use Rattle.isa.specs.Enable.{vecint_enables}
use Rattle.isa.specs.Vecint as Vecint
use Rattle.isa.specs.Vecint.{enable_mode, enable_value}
use Rattle.isa.specs.Vecfp as Vecfp
use Rattle.isa.proofs.MixedWidths.{both_equal}
use Rattle.operand.specs.Lanes.{lanes_by}
use Rattle.operand.proofs.Lanes.{lanes-by}
use Rattle.operand.proofs.Widths.{OneOrTwo, one-two_or_four, by-widths, x_cases, y_cases, z_width_cases}
use Rattle.masks.specs.Mask.{mask_of, lane_used, mask_at, enables_all}
use Rattle.masks.proofs.Mask.{mask_same, mask_none, mask_and}
use Rattle.masks.proofs.Enabled.{all-is, differs}

-- ---- by the mode

module _ (lanes n : ℕ) (halved : Bool) where
  abbrev pub rule : ℕ → ℕ → Bool
  rule mode k = vecint_enables lanes mode n (lane_used halved k)

  -- what a mode's rule makes, where the mode is known
  pub in-mode : (m : ℕ) (g : ℕ → Bool) → ((k : ℕ) → g k ≡ rule m k) → {mode : ℕ} → mode ≡ m → mask_of g 64 ≡ mask_of (rule mode) 64
  in-mode m g h e = mask_same _ _ 64 (λ k l. h k ∙ ap (λ (x : ℕ). rule x k) (sym e))

  pub in-no-mode : (mode : ℕ) → 6 ≤ mode → 0 ≡ mask_of (rule mode) 64
  unfolding vecint_enables
  in-no-mode mode h =
      mask_none 64
      ∙ mask_same _ _ 64
      (λ k l.
      sym (pick_false _ _ (differs mode 0 (omega arith)) ∙ pick_false _ _ (differs mode 1 (omega arith)) ∙ pick_false _ _ (differs mode 2 (omega arith))
      ∙ pick_false _ _ (differs mode 3 (omega arith)) ∙ pick_false _ _ (differs mode 4 (omega arith)) ∙ pick_false _ _ (differs mode 5 h)))

-- ---- all lanes

module _ (lanes i : ℕ) where
  all-at-nought : (mode : ℕ) → mode ≤ 3 → vecint_enables lanes mode 0 i ≡ true
  unfolding vecint_enables
  all-at-nought zero h = refl
  all-at-nought (suc zero) h = refl
  all-at-nought (suc (suc zero)) h = refl
  all-at-nought (suc (suc (suc zero))) h = refl
  all-at-nought (suc (suc (suc (suc mode)))) h = absurd (omega arith)

  all-by-value : (n : ℕ) → 3 ≤ n → n ≤ 5 → vecint_enables lanes 0 n i ≡ true
  unfolding vecint_enables
  all-by-value n low high =
      simp (ne_eqb n 0 (λ e. omega (arith, e)), ne_eqb n 1 (λ e. omega (arith, e)), ne_eqb n 2 (λ e. omega (arith, e)), le-leb n 5 high)

  all-in-mode-1 : (n : ℕ) → vecint_enables lanes 1 n i ≡ true
  unfolding vecint_enables
  all-in-mode-1 n = refl

  pub all-enabled : (mode n : ℕ) → enables_all mode n ≡ true → vecint_enables lanes mode n i ≡ true
  all-enabled mode n e =
      two (eqb n 0) (vecint_enables lanes mode n i ≡ true)
      (λ t.
      subst (λ (m : ℕ). vecint_enables lanes mode m i ≡ true) (sym (eqb-true n 0 t)) (all-at-nought mode (leb-true mode 3 (sym (pick_true _ _ t) ∙ e))))
      (λ f.
      two (eqb mode 0) (vecint_enables lanes mode n i ≡ true)
      (λ t.
      let value : cond (ltb n 3) false (leb n 5) ≡ true = sym (pick_true _ _ t) ∙ sym (pick_false _ _ f) ∙ e in
      subst (λ (m : ℕ). vecint_enables lanes m n i ≡ true) (sym (eqb-true mode 0 t)) (by_value n value))
      (λ other.
      let one : eqb mode 1 ≡ true = sym (pick_false _ _ other) ∙ sym (pick_false _ _ f) ∙ e in
      subst (λ (m : ℕ). vecint_enables lanes m n i ≡ true) (sym (eqb-true mode 1 one)) (all-in-mode-1 n)))
    where
      by_value : (n : ℕ) → cond (ltb n 3) false (leb n 5) ≡ true → vecint_enables lanes 0 n i ≡ true
      by_value n value =
          two (ltb n 3) (vecint_enables lanes 0 n i ≡ true)
          (λ low. absurd (true_false (sym (sym (pick_true _ _ low) ∙ value))))
          (λ high. all-by-value n (ltb-false n 3 high) (leb-true n 5 (sym (pick_false _ _ high) ∙ value)))

-- ---- the masks of X and Y

-- each side's lane for lane k: every second one where it is the wider side
abbrev RightLanes : ℕ → Vecint.Widths → Type 0
RightLanes k w =
    (lane_used (ltb w.y w.x) k ≡ Vecint.side_lane w w.x k) × (lane_used (ltb w.x w.y) k ≡ Vecint.side_lane w w.y k)

lanes-used : (op k : ℕ) → RightLanes k (Vecint.widths op)
lanes-used op k =
    let each : _ = sym (div-one k) in
    by-widths (RightLanes k) (each, each) (each, each) (each, each) (each, each) (each, refl) (refl, each) op

module _ (op x y : ℕ) (ex : x ≡ (Vecint.widths op).x) (ey : y ≡ (Vecint.widths op).y) where
  -- the mask as it is read at a side of b bytes beside one of c bytes, as it is meant, and both sides' together
  abbrev read_at : ℕ → ℕ → ℕ
  read_at b c = mask_of (λ k. mask_at op (lanes_by b) (lane_used (ltb c b) k)) 64

  abbrev side : ℕ → ℕ → Bool
  side b = Vecint.allows (Vecint.widths op) b (enable_mode op) (enable_value op)

  abbrev both : ℕ
  both = mask_of (Vecint.both_allow (Vecint.widths op) (enable_mode op) (enable_value op)) 64

  at_side : (b c n : ℕ) → b ≡ n → OneOrTwo n → ((k : ℕ) → lane_used (ltb c b) k ≡ Vecint.side_lane (Vecint.widths op) n k)
      → read_at b c ≡ mask_of (side n) 64
  at_side b c n e cases used = mask_same _ _ 64 (λ k h. λ i. mask_at op (lanes-by b n (one-two_or_four cases) e i) (used k i))

  at_x : read_at x y ≡ mask_of (side (Vecint.widths op).x) 64
  at_x = at_side x y _ ex (x_cases op) (λ k. (λ i. lane_used (ltb (ey i) (ex i)) k) ∙ (lanes-used op k).0)

  at_y : read_at y x ≡ mask_of (side (Vecint.widths op).y) 64
  at_y = at_side y x _ ey (y_cases op) (λ k. (λ i. lane_used (ltb (ex i) (ey i)) k) ∙ (lanes-used op k).1)

  pub one-mask : x ≡ y → read_at x y ≡ both
  one-mask same =
      at_x ∙ mask_same _ _ 64 (λ k h. sym (both_equal (Vecint.widths op) (sym ex ∙ same ∙ ey) (enable_mode op) (enable_value op) k))

  pub two-masks : (a b : ℕ) → a ≡ read_at x y → b ≡ read_at y x → bit_and a b ≡ both
  two-masks a b ea eb = ap₂ bit_and (ea ∙ at_x) (eb ∙ at_y) ∙ mask_and (side (Vecint.widths op).x) (side (Vecint.widths op).y) 64

-- ---- a vector's mask

module _ (generation op : ℕ) where
  abbrev vector_mask : ℕ
  vector_mask = mask_of (λ k. Vecint.several generation op || Vecint.masked op k) 64

  pub several-mask : Vecint.several generation op ≡ true → 18446744073709551615 ≡ vector_mask
  several-mask on = all-is _ (λ k h. ap (λ (b : Bool). b || Vecint.masked op k) on)

  module _ (one : Vecint.several generation op ≡ false) where
    -- of one vector, by the mask's own rule
    by-rule : (f : ℕ → Bool) → ((k : ℕ) → f k ≡ Vecint.masked op k) → mask_of f 64 ≡ vector_mask
    by-rule f e = mask_same _ _ 64 (λ k h. e k ∙ sym (ap (λ (b : Bool). b || Vecint.masked op k) one))

    pub all-mask : (mode n : ℕ) → mode ≡ enable_mode op → n ≡ enable_value op → enables_all mode n ≡ true → 18446744073709551615 ≡ vector_mask
    unfolding Vecint.masked
    all-mask mode n em en every =
        all-is (λ k. true) (λ k h. refl)
        ∙ by-rule (λ k. true) (λ k. sym (either (λ (b : Bool). b ≡ true) (Vecint.reduces op) (on _ k) (ap₂ ◌&&◌ (on _ _) (on _ _))))
      where
        on : (lanes i : ℕ) → vecint_enables lanes (enable_mode op) (enable_value op) i ≡ true
        on lanes i = all-enabled lanes i (enable_mode op) (enable_value op) (sym (λ t. enables_all (em t) (en t)) ∙ every)

    pub reducing-mask : (b : ℕ) → b ≡ Vecint.z_width op → Vecint.reduces op ≡ true
        → mask_of (λ k. mask_at op (lanes_by b) (lane_used false k)) 64 ≡ vector_mask
    unfolding Vecint.masked
    reducing-mask b e reduces =
        by-rule _ (λ k. ap (λ (lanes : ℕ). mask_at op lanes k) (lanes-by b _ (z_width_cases op) e) ∙ sym (pick_true _ _ reduces))

    pub two-sided-mask : Vecint.reduces op ≡ false
        → mask_of (Vecint.both_allow (Vecint.widths op) (enable_mode op) (enable_value op)) 64 ≡ vector_mask
    unfolding Vecint.masked
    two-sided-mask reads = by-rule _ (λ k. sym (pick_false _ _ reads))

-- ---- vecfp's

module _ (generation op : ℕ) where
  abbrev vecfp_mask : ℕ
  vecfp_mask = mask_of (Vecfp.enabled generation op) 64

  pub several-vecfp : Vecint.several generation op ≡ true → 18446744073709551615 ≡ vecfp_mask
  unfolding Vecfp.enabled
  several-vecfp on = all-is _ (λ k h. ap (λ (b : Bool). b || vecint_enables (Vecfp.lanes op) (enable_mode op) (Vecfp.enable_value op) k) on)

  module _ (one : Vecint.several generation op ≡ false) (mode n : ℕ) (em : mode ≡ enable_mode op) (en : n ≡ Vecfp.enable_value op) where
    pub some-vecfp : (lanes : ℕ) → lanes ≡ Vecfp.lanes op → mask_of (vecint_enables lanes mode n) 64 ≡ vecfp_mask
    unfolding Vecfp.enabled
    some-vecfp lanes el = λ i. mask_of (λ k. sym one i || vecint_enables (el i) (em i) (en i) k) 64

    pub all-vecfp : enables_all mode n ≡ true → 18446744073709551615 ≡ vecfp_mask
    all-vecfp every = all-is _ (λ k h. all-enabled (Vecfp.lanes op) k mode n every) ∙ some-vecfp (Vecfp.lanes op) refl
