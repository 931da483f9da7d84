-- One lane: what becomes of its term, by the branches of the code.
-- Assumes nothing.
use Rattle.std.proofs.Common.{◌≡◌, ℕ, ◌+◌, ◌-◌, ◌%◌, ◌<◌, Bool, true, false, cond, not, List, ℤ, ◌+ℤ◌, neg_ℤ, sym, refl, ap, ◌∙◌}
use borrow.Author.Tests.{not-true, not-false}
use lib.Seq.{sets}
use Rattle.number.specs.Bytes.{span, byte_at, number, bytes_of}
use Rattle.number.specs.Integers.{signed, wrap, kept, clamp_signed}
use Rattle.number.proofs.Modular.{adds_modulo, subtracts_modulo}
use Rattle.number.proofs.Tests.{pick_true, pick_false}
use Rattle.vecint.specs.declared.Alu.{Alu}
use Rattle.vecint.specs.Accumulation.{z_bytes, lane_stored, summed, clamped_sum, accumulated}

module _ (how : Alu) (b z : ℕ) (t : ℤ) (r v : ℕ) (ev : v ≡ wrap (span b) t) where
  pub in_place : not how.keeps ≡ true → v ≡ wrap (span b) (summed how (signed b z) t)
  unfolding summed
  in_place k = ev ∙ ap (wrap (span b)) (sym (pick_false _ _ (not-true how.keeps k)))

  kept-with : (n : Bool) → how.negates ≡ n → not how.keeps ≡ false → summed how (signed b z) t ≡ signed b z +ℤ cond n (neg_ℤ t) t
  unfolding summed
  kept-with n en k = pick_true _ _ (not-false how.keeps k) ∙ ap (λ (x : Bool). signed b z +ℤ cond x (neg_ℤ t) t) en

  pub taken-from : not how.keeps ≡ false → how.negates ≡ true → r ≡ (z + (span b - v)) % span b → r ≡ wrap (span b) (summed how (signed b z) t)
  taken-from k n e =
      e ∙ ap (λ (x : ℕ). (z + (span b - x)) % span b) ev ∙ sym (subtracts_modulo b z t)
      ∙ ap (wrap (span b)) (sym (kept-with true n k))

  pub added-to : not how.keeps ≡ false → how.negates ≡ false → r ≡ (z + v) % span b → r ≡ wrap (span b) (summed how (signed b z) t)
  added-to k n e =
      e ∙ ap (λ (x : ℕ). (z + x) % span b) ev ∙ sym (adds_modulo b z t)
      ∙ ap (wrap (span b)) (sym (kept-with false n k))

-- the clamp of the saturating modes
module _ (how : Alu) (z : ℤ) (t : ℤ) where
  pub clamp-sum : (v s : ℤ) → how.keeps ≡ true → s ≡ cond how.negates (kept 8 (neg_ℤ t)) t → v ≡ kept 8 (z +ℤ s) → clamp_signed 2 v ≡ clamped_sum how z t
  unfolding clamped_sum
  clamp-sum v s k es ev = ap (clamp_signed 2) (ev ∙ ap (λ (x : ℤ). kept 8 (z +ℤ x)) es ∙ sym (pick_true _ _ k))

  pub clamp-term : how.keeps ≡ false → clamp_signed 2 t ≡ clamped_sum how z t
  unfolding clamped_sum
  clamp-term k = ap (clamp_signed 2) (sym (pick_false _ _ k))

  pub is-clamped : how.clamps ≡ true → clamped_sum how z t ≡ accumulated false how z t
  unfolding accumulated
  is-clamped e = sym (pick_true _ _ e)

  pub is-summed : how.clamps ≡ false → summed how z t ≡ accumulated false how z t
  unfolding accumulated
  is-summed e = sym (pick_false _ _ e)

  pub wide-summed : summed how z t ≡ accumulated true how z t
  unfolding accumulated
  wide-summed = refl

-- the lane as the code stores it, where z is what it reads and n what it makes of it
pub stored_is : {A : Type 0} (number_of : A → ℕ) (wide : Bool) (b : ℕ) (width : z_bytes wide ≡ b) (how : Alu) (s : List ℕ) (at : ℕ) (t : ℤ) (on : Bool)
    (z n r : A) → number_of z ≡ number b (byte_at s) at
    → number_of n ≡ wrap (span b) (accumulated wide how (signed b (number_of z)) t) → r ≡ cond on n z
    → sets s at (bytes_of b (number_of r)) ≡ lane_stored wide how s at t on
stored_is number_of wide b width how s at t on z n r ez en er =
    ap (λ (x : ℕ). sets s at (bytes_of b x)) (ap number_of er ∙ by on)
    ∙ (λ i. sets s at (bytes_of (same i) (cond on (new (same i) (old (same i))) (old (same i)))))
  where
    same : b ≡ z_bytes wide
    same = sym width

    old : ℕ → ℕ
    old w = number w (byte_at s) at

    new : ℕ → ℕ → ℕ
    new w x = wrap (span w) (accumulated wide how (signed w x) t)

    by : (o : Bool) → number_of (cond o n z) ≡ cond o (new b (old b)) (old b)
    by true = en ∙ ap (new b) ez
    by false = ez
