-- vecfp's format, by the test of the code.
-- Assumes nothing.
use mathlib.Core.Path.{◌≡◌, sym, ap, ◌∙◌}
use mathlib.Core.Bool.{Bool, true, false}
use Prim.Native.Nat.{ℕ}
use lib.Ieee.{Format, binary32, binary64}
use Rattle.number.proofs.Tests.{pick_true, pick_false}
use Rattle.isa.specs.Vecfp as Vecfp

module _ (op : ℕ) {single : Bool} (e : single ≡ Vecfp.is_single op) where
  pub format-single : single ≡ true → Vecfp.format_of op ≡ binary32
  unfolding Vecfp.format_of
  format-single t = pick_true _ _ (sym e ∙ t)

  pub format-double : single ≡ false → Vecfp.format_of op ≡ binary64
  unfolding Vecfp.format_of
  format-double f = pick_false _ _ (sym e ∙ f)

  -- a number of the format
  pub of-single : (n : Format → ℕ) → single ≡ true → n binary32 ≡ n (Vecfp.format_of op)
  of-single n t = ap n (sym (format-single t))

  pub of-double : (n : Format → ℕ) → single ≡ false → n binary64 ≡ n (Vecfp.format_of op)
  of-double n f = ap n (sym (format-double f))
