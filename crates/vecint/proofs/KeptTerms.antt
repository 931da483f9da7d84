-- A term is kept in 4 bytes: no Z lane is wider, and the saturating modes have terms that lose nothing.
-- Assumes nothing.
use Rattle.std.proofs.Common.{◌≡◌, ℕ, ◌+◌, ◌%◌, ◌<◌, Bool, true, false, cond, ℤ, ◌+ℤ◌, neg_ℤ, sym, ap, ◌∙◌, mod-eq_of_lt, pow_pos}
use native.Mathlib.Nat.{zero-mod}
use lib.IntN.{+ℤ_invl}
use Rattle.number.specs.Bytes.{span}
use Rattle.number.specs.Integers.{wrap, kept}
use Rattle.number.proofs.Modular.{wrap-lt, wrap-add, wrap-signed, wrap-negative}
use Rattle.number.proofs.Range.{wrap-low}
use Rattle.number.proofs.Tests.{two, pick_false}
use Rattle.vecint.specs.declared.Alu.{Alu}
use Rattle.vecint.specs.Accumulation.{z_bytes, summed, accumulated}

-- what a lane keeps of a term is what it keeps of the 4 bytes of it
wrap-kept : (wide : Bool) (t : ℤ) → wrap (span (z_bytes wide)) (kept 4 t) ≡ wrap (span (z_bytes wide)) t
wrap-kept true t = wrap-signed 4 (wrap (span 4) t) ∙ mod-eq_of_lt (wrap-lt (span 4) (pow_pos 32) t)
wrap-kept false t =
    sym (wrap-low 16 16 (kept 4 t)) ∙ ap (λ (n : ℕ). n % 65536) (wrap-signed 4 (wrap (span 4) t) ∙ mod-eq_of_lt (wrap-lt (span 4) (pow_pos 32) t))
    ∙ wrap-low 16 16 t

-- a sum, and a difference, by what is kept of the term
module _ (m : ℕ) (p : 0 < m) (z t u : ℤ) (e : wrap m t ≡ wrap m u) where
  sum_kept : wrap m (z +ℤ t) ≡ wrap m (z +ℤ u)
  sum_kept = wrap-add m p z t ∙ ap (λ (n : ℕ). (wrap m z + n) % m) e ∙ sym (wrap-add m p z u)

  negative-kept : wrap m (neg_ℤ t) ≡ wrap m (neg_ℤ u)
  negative-kept =
      wrap-negative m p u (wrap m (neg_ℤ t)) (wrap-lt m p (neg_ℤ t))
      (ap (λ (n : ℕ). (wrap m (neg_ℤ t) + n) % m) (sym e) ∙ sym (wrap-add m p (neg_ℤ t) t) ∙ ap (wrap m) (+ℤ_invl t) ∙ zero-mod m)

summed_kept : (m : ℕ) → 0 < m → (how : Alu) (z t u : ℤ) → wrap m t ≡ wrap m u → wrap m (summed how z t) ≡ wrap m (summed how z u)
unfolding summed
summed_kept m p how z t u e = by how.keeps how.negates
  where
    by : (k n : Bool) → wrap m (cond k (z +ℤ cond n (neg_ℤ t) t) t) ≡ wrap m (cond k (z +ℤ cond n (neg_ℤ u) u) u)
    by false n = e
    by true false = sum_kept m p z t u e
    by true true = sum_kept m p z (neg_ℤ t) (neg_ℤ u) (negative-kept m p z t u e)

pub kept-is : (wide : Bool) (how : Alu) (z t : ℤ) → (how.clamps ≡ true → kept 4 t ≡ t)
    → wrap (span (z_bytes wide)) (accumulated wide how z (kept 4 t)) ≡ wrap (span (z_bytes wide)) (accumulated wide how z t)
unfolding accumulated
kept-is true how z t whole = summed_kept (span 4) (pow_pos 32) how z (kept 4 t) t (wrap-kept true t)
kept-is false how z t whole =
    two how.clamps (wrap (span 2) (accumulated false how z (kept 4 t)) ≡ wrap (span 2) (accumulated false how z t))
    (λ c. ap (λ (u : ℤ). wrap (span 2) (accumulated false how z u)) (whole c))
    (λ c.
    ap (wrap (span 2)) (pick_false _ _ c) ∙ summed_kept (span 2) (pow_pos 16) how z (kept 4 t) t (wrap-kept false t)
    ∙ sym (ap (wrap (span 2)) (pick_false _ _ c)))
