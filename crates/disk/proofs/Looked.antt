-- Steps that are read and looked at, a run after another.
-- Assumes nothing.
use mathlib.Core.Path.{◌≡◌, refl, sym, ap, subst, ◌∙◌}
use mathlib.Core.Bool.{Bool, true, false, ◌&&◌}
use mathlib.Core.List.{List, [], ◌++◌}
use mathlib.Core.Logic.{⊎_elim}
use Prim.Native.Nat.{ℕ, zero, suc, ◌+◌, ◌*◌, ◌≤◌, ◌<◌}
use native.Mathlib.Nat.{add-zero, add-suc}
use native.Mathlib.Omega.{arith}
use borrow.Author.Tests.{eq-eqb, ne_eqb}
use lib.Dec.{eqb}
use lib.ListN.{length, length-append, get_or-append}
use lib.Seq.{get_or-append-add}
use Rattle.std.specs.Prelude.{Option, Some, None}
use Rattle.number.specs.Bytes.{byte_at}
use Rattle.number.proofs.Tests.{true_false, lt_or_le, two}
use Rattle.file.specs.File.{run_steps, run_of, step_at, padding_clear, paddings_clear, sound_in}
use Rattle.file.proofs.Sound.{sound-there, sound-clear, sound-before, sound-is, padding-moved}
use Rattle.file.proofs.Paddings.{all-at, all_true, paddings-none}
use Rattle.file.proofs.Records.{run-few, run-most}
use Rattle.disk.specs.Got.{Looked, CutShort, Seen}

-- ---- one run

module _ (part : List ℕ) (m : ℕ) (whole : length part ≡ 16 * m) where
  all_sound : paddings_clear part m ≡ true → sound_in part m ≡ m
  unfolding paddings_clear
  all_sound t =
      sound-is part m m (omega arith)
      (λ j l. sound-there part j (omega (arith, l, whole)) (all-at (padding_clear part) m t j l))
      (λ l. absurd (omega (arith, l)))

  all-clear : sound_in part m ≡ m → paddings_clear part m ≡ true
  unfolding paddings_clear
  all-clear e = all_true (padding_clear part) m (λ j l. sound-clear part j (sound-before part m j (omega (arith, l, e))))

  sound-is-clear : eqb (sound_in part m) m ≡ paddings_clear part m
  sound-is-clear =
      two (paddings_clear part m) (eqb (sound_in part m) m ≡ paddings_clear part m)
      (λ t. eq-eqb (sound_in part m) m (all_sound t) ∙ sym t)
      (λ f. ne_eqb (sound_in part m) m (λ e. true_false (sym (all-clear e) ∙ f)) ∙ sym f)

  pub looked-run : (k : ℕ) → k ≡ sound_in part m → Looked m (eqb k m)
  looked-run k e = record { bytes = part; whole = whole; told = ap (λ (j : ℕ). eqb j m) e ∙ sound-is-clear }

-- ---- a run behind others

and_true : (a : Bool) → a && true ≡ a
and_true true = refl
and_true false = refl

and_assoc : (a b d : Bool) → (a && b) && d ≡ a && (b && d)
and_assoc true b d = refl
and_assoc false b d = refl

module _ (xs ys : List ℕ) (i : ℕ) (whole : length xs ≡ 16 * i) where
  padding-first : (k : ℕ) → k < i → padding_clear (xs ++ ys) k ≡ padding_clear xs k
  padding-first k h = padding-moved (xs ++ ys) xs k k (λ j l. get_or-append xs ys 0 (step_at k + j) (omega (arith, h, l, whole)))

  padding-next : (k : ℕ) → padding_clear (xs ++ ys) (i + k) ≡ padding_clear ys k
  padding-next k =
      padding-moved (xs ++ ys) ys (i + k) k
      (λ j l.
      let place : step_at (i + k) + j ≡ length xs + (step_at k + j) = omega (arith, whole) in
      ap (byte_at (xs ++ ys)) place ∙ get_or-append-add xs ys (step_at k + j) 0)

  paddings-first : (k : ℕ) → k ≤ i → paddings_clear (xs ++ ys) k ≡ paddings_clear xs k
  unfolding paddings_clear
  paddings-first zero h = refl
  paddings-first (suc k) h =
      let before = paddings-first k (omega (arith, h)) in
      let last = padding-first k h in
      λ t. before t && last t

  paddings-both : (m : ℕ) → paddings_clear (xs ++ ys) (i + m) ≡ paddings_clear xs i && paddings_clear ys m
  unfolding paddings_clear
  paddings-both zero = ap (paddings_clear (xs ++ ys)) (add-zero i) ∙ paddings-first i (omega arith) ∙ sym (and_true (paddings_clear xs i))
  paddings-both (suc m) =
      let before = paddings-both m in
      let last = padding-next m in
      ap (paddings_clear (xs ++ ys)) (add-suc i m)
      ∙ (λ t. before t && last t)
      ∙ and_assoc (paddings_clear xs i) (paddings_clear ys m) (padding_clear ys m)

-- what was seen of a run that is not cut short
pub seen-some : (seen : Option Bool) (clear : Bool) (n : ℕ) → seen ≡ Some clear → Seen seen n → Looked n clear
seen-some seen clear n e w = subst (λ (x : Option Bool). Seen x n) e w

pub seen-none : (seen : Option Bool) (n : ℕ) → seen ≡ None → Seen seen n → CutShort n
seen-none seen n e w = subst (λ (x : Option Bool). Seen x n) e w

pub looked_none : Looked 0 true
looked_none = record { bytes = []; whole = refl; told = sym (paddings-none []) }

module _ (i m : ℕ) (clear : Bool) (before : Looked i clear) where
  pub looked-next : (sound clear' : Bool) → Looked m sound → clear' ≡ clear && sound → Looked (i + m) clear'
  looked-next sound clear' run e =
      let xs = before.bytes in
      let ys = run.bytes in
      record {
        bytes = xs ++ ys;
        whole = omega (arith, length-append xs ys, before.whole, run.whole);
        told = e ∙ (λ t. before.told t && run.told t) ∙ sym (paddings-both xs ys i before.whole m);
      }

-- while steps are left, a run has one
pub run-some : (left m : ℕ) → m ≡ run_of left → 0 < left → 0 < m
run-some left m e h =
    ⊎_elim
    (λ (l : left < run_steps). omega (arith, e, h, run-few left l))
    (λ (l : run_steps ≤ left). omega (arith, e, run-most left l))
    (lt_or_le left run_steps)
