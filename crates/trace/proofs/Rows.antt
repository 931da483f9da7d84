-- Rows of Z: their bytes, whether they differ, and their lines.
-- Assumes nothing.
use mathlib.Core.Path.{◌≡◌, refl, sym, ap, subst, ◌∙◌}
use mathlib.Core.Bool.{Bool, true, false, not}
use mathlib.Core.List.{List, []}
use Prim.Native.Nat.{ℕ, ◌+◌, ◌*◌, ◌≤◌, ◌<◌}
use native.Mathlib.Nat.{add-zero}
use native.Mathlib.Numerals.{add-one}
use native.Mathlib.Omega.{arith}
use borrow.Author.Tests.{eq-eqb, eqb-true}
use lib.Dec.{eqb}
use lib.ListN.{length}
use lib.Pointwise.{pointwise, bytes_decides}
use Rattle.std.proofs.Common.{ext_get_or}
use Rattle.number.specs.Bytes.{byte_at}
use Rattle.number.proofs.Tests.{pick_true, pick_false, is_false, true_false, two}
use Rattle.number.proofs.Bytes.{length-table}
use Rattle.file.specs.File.{all}
use Rattle.file.proofs.Paddings.{all-at, all_true}
use Rattle.text.specs.Lines.{z_line}
use Rattle.text.proofs.Pieces.{Stored, stored_append}
use Rattle.trace.proofs.Short.{z_short}
use Rattle.trace.specs.Trace.{row_of, differ, row_changed, row_line, row_lines, z_lines}

-- ---- two rows

-- whether two rows differ, by whether they are the same list
pub differs : (a b : List ℕ) → length a ≡ 64 → length b ≡ 64 → not (pointwise eqb a b) ≡ differ a b
unfolding differ
differs a b la lb =
    two (pointwise eqb a b) (not (pointwise eqb a b) ≡ not (all same 64))
    (λ t.
    let e : a ≡ b = (bytes_decides a b).0 t in
    ap not (t ∙ sym (all_true same 64 (λ j l. eq-eqb (byte_at a j) (byte_at b j) (ap (λ (s : List ℕ). byte_at s j) e)))))
    (λ f. ap not (f ∙ sym (is_false (all same 64) (λ t. true_false (sym ((bytes_decides a b).1 (alike t)) ∙ f)))))
  where
    same : ℕ → Bool
    same k = eqb (byte_at a k) (byte_at b k)

    alike : all same 64 ≡ true → a ≡ b
    alike t = ext_get_or 0 a b (la ∙ sym lb) (λ j l. eqb-true (byte_at a j) (byte_at b j) (all-at same 64 t j (omega (arith, la, l))))

-- ---- a row's line, by the branches of the code

module _ (start state before after : List ℕ) (r : ℕ) (h : r < 64) (b : before ≡ row_of start r) (a : after ≡ row_of state r) where
  changed : not (pointwise eqb before after) ≡ row_changed start state r
  changed =
      differs before after (ap length b ∙ length-table (λ k. byte_at start (1024 + r * 64 + k)) 0 64)
      (ap length a ∙ length-table (λ k. byte_at state (1024 + r * 64 + k)) 0 64)
      ∙ (λ i. differ (b i) (a i))

  pub line-none : true ≡ pointwise eqb before after → [] ≡ row_line start state r
  line-none e = sym (pick_false _ _ (sym changed ∙ ap not (sym e)))

  pub line-there : false ≡ pointwise eqb before after → z_line r after ≡ row_line start state r
  line-there e = ap (z_line r) a ∙ sym (pick_true _ _ (sym changed ∙ ap not (sym e)))

  pub line-fits : length (z_line r after) ≤ 152
  line-fits = z_short r after h (ap length a ∙ length-table (λ k. byte_at state (1024 + r * 64 + k)) 0 64)

pub row_kept : (out : List ℕ) (at : ℕ) (line : List ℕ) → [] ≡ line → Stored out at line out at × (at ≤ at + 152)
row_kept out at line e = (subst (λ (xs : List ℕ). Stored out at xs out at) e (refl, sym (add-zero at)), omega arith)

pub row-printed : (out out' : List ℕ) (at at' : ℕ) (line line' : List ℕ) → line ≡ line' → length line ≤ 152 → Stored out at line out' at'
    → Stored out at line' out' at' × (at' ≤ at + 152)
row-printed out out' at at' line line' e short s =
    (subst (λ (xs : List ℕ). Stored out at xs out' at') e s, omega (arith, s.1))

-- ---- all rows

pub rows_more : (start end out₀ out out' : List ℕ) (r at at' : ℕ) → Stored out₀ 0 (row_lines start end r) out at
    → Stored out at (row_line start end r) out' at' → Stored out₀ 0 (row_lines start end (r + 1)) out' at'
rows_more start end out₀ out out' r at at' front back =
    subst (λ (k : ℕ). Stored out₀ 0 (row_lines start end k) out' at') (sym (add-one r))
    (stored_append out₀ out out' 0 at at' (row_lines start end r) (row_line start end r) front back)

pub rows_all : (start end out₀ out : List ℕ) (r at : ℕ) → r ≤ 64 → 64 ≤ r → Stored out₀ 0 (row_lines start end r) out at
    → Stored out₀ 0 (z_lines start end) out at
rows_all start end out₀ out r at h l s =
    let same : r ≡ 64 = omega arith in
    subst (λ (k : ℕ). Stored out₀ 0 (row_lines start end k) out at) same s
