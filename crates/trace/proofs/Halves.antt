-- Bytes of steps in two parts: the first m steps' and the rest.
-- Assumes nothing.
use mathlib.Core.Path.{◌≡◌, refl, sym, ap, ◌∙◌}
use mathlib.Core.Bool.{true}
use mathlib.Core.List.{List, ◌++◌}
use mathlib.Core.Logic.{⊎_elim}
use Prim.Native.Nat.{ℕ, zero, suc, ◌+◌, ◌-◌, ◌*◌, ◌≤◌, ◌<◌}
use native.Mathlib.Omega.{arith}
use borrow.Author.Tests.{lt-ltb, le-ltb}
use lib.ListN.{length, take, drop, length-take, length-drop}
use lib.Seq.{get_or-take, get_or-drop}
use Rattle.number.specs.Bytes.{byte_at}
use Rattle.number.proofs.Tests.{pick_true, pick_false, two, is_false, true_false, lt_or_le}
use Rattle.number.proofs.Bytes.{table_same, table-add}
use Rattle.file.specs.declared.FileRefusal.TheVariants.{Contents, Padding}
use Rattle.file.specs.File.{step_at, sound, sound_in, fault_at, call_at, calls, padding_clear}
use Rattle.file.proofs.Sound.{sound-is, sound-most, sound-before, sound-fault, sound-there, sound-whole, sound-clear, padding-moved, call-moved}

-- ---- a step at another place

-- step i of s and step j of t have the same bytes, and both are there or neither
pub record Alike (s t : List ℕ) (i j : ℕ) : Type 0 where
  pub bytes : (k : ℕ) → k < 16 → byte_at s (step_at i + k) ≡ byte_at t (step_at j + k)
  pub there : step_at (suc i) ≤ length s → step_at (suc j) ≤ length t
  pub back : step_at (suc j) ≤ length t → step_at (suc i) ≤ length s

module _ (s t : List ℕ) (i j : ℕ) (a : Alike s t i j) where
  pub alike-sound : sound s i ≡ sound t j
  alike-sound =
      let clear : padding_clear s i ≡ padding_clear t j = padding-moved s t i j a.bytes in
      two (sound s i) (sound s i ≡ sound t j)
      (λ e. e ∙ sym (sound-there t j (a.there (sound-whole s i e)) (sym clear ∙ sound-clear s i e)))
      (λ e.
      e ∙ sym (is_false (sound t j)
      (λ f. true_false (sym (sound-there s i (a.back (sound-whole t j f)) (clear ∙ sound-clear t j f)) ∙ e))))

  pub alike-call : call_at s i ≡ call_at t j
  alike-call = call-moved s t i j a.bytes

  pub alike-fault : fault_at s i ≡ fault_at t j
  alike-fault =
      ⊎_elim
      (λ (h : length s < step_at (suc i)).
      let cut : length t < step_at (suc j) = ⊎_elim (λ l. l) (λ l. absurd (omega (arith, h, a.back l))) (lt_or_le (length t) (step_at (suc j))) in
      pick_true Contents Padding (lt-ltb _ _ h) ∙ sym (pick_true Contents Padding (lt-ltb _ _ cut)))
      (λ (h : step_at (suc i) ≤ length s).
      pick_false Contents Padding (le-ltb _ _ h) ∙ sym (pick_false Contents Padding (le-ltb _ _ (a.there h))))
      (lt_or_le (length s) (step_at (suc i)))

-- ---- the two parts

module _ (bytes : List ℕ) (m : ℕ) where
  abbrev pub front : List ℕ
  front = take (16 * m) bytes

  abbrev pub back : List ℕ
  back = drop (16 * m) bytes

  pub front-alike : (j : ℕ) → j < m → Alike front bytes j j
  front-alike j h = record {
    bytes = λ k l. get_or-take (16 * m) bytes (16 * j + k) 0 (omega (arith, h, l));
    there = λ e. omega (arith, e, length-take (16 * m) bytes);
    back = λ e. omega (arith, e, h, length-take (16 * m) bytes);
  }

  pub back-alike : 16 * m ≤ length bytes → (j : ℕ) → Alike back bytes j (m + j)
  back-alike w j = record {
    bytes = λ k l.
        let place : 16 * m + (16 * j + k) ≡ 16 * (m + j) + k = omega arith in
        get_or-drop (16 * m) bytes (16 * j + k) 0 ∙ ap (byte_at bytes) place;
    there = λ e. omega (arith, e, w, length-drop (16 * m) bytes);
    back = λ e. omega (arith, e, w, length-drop (16 * m) bytes);
  }

  pub calls-front : (k : ℕ) → k ≤ m → calls front k ≡ calls bytes k
  calls-front k h = table_same (call_at front) (call_at bytes) k (λ j l. alike-call front bytes j j (front-alike j (omega (arith, h, l))))

  -- ---- a fault in the first part

  pub halves-stop : (l : ℕ) → sound_in front m < m → sound_in bytes (m + l) ≡ sound_in front m
  halves-stop l h =
      sound-is bytes (m + l) (sound_in front m) (omega (arith, h))
      (λ j less. sym (alike-sound front bytes j j (front-alike j (omega (arith, h, less)))) ∙ sound-before front m j less)
      (λ less. sym (alike-sound front bytes _ _ (front-alike (sound_in front m) h)) ∙ sound-fault front m h)

  -- ---- none there

  module _ (e : sound_in front m ≡ m) where
    last-there : (p : ℕ) → m ≡ suc p → 16 * m ≤ length bytes
    last-there p f =
        let there : step_at (suc p) ≤ length front = sound-whole front p (sound-before front m p (omega (arith, e, f))) in
        omega (arith, there, f, length-take (16 * m) bytes)

    by_count : (n : ℕ) → m ≡ n → 16 * m ≤ length bytes
    by_count zero f = omega (arith, f)
    by_count (suc p) f = last-there p f

    pub halves-whole : 16 * m ≤ length bytes
    halves-whole = by_count m refl

    pub halves-on : (l : ℕ) → sound_in bytes (m + l) ≡ m + sound_in back l
    halves-on l =
        sound-is bytes (m + l) (m + sound_in back l) (omega (arith, sound-most back l)) before
        (λ less. sym (alike-sound back bytes _ _ (back-alike halves-whole (sound_in back l))) ∙ sound-fault back l (omega (arith, less)))
      where
        before : (j : ℕ) → j < m + sound_in back l → sound bytes j ≡ true
        before j less =
            ⊎_elim
            (λ (h : j < m). sym (alike-sound front bytes j j (front-alike j h)) ∙ sound-before front m j (omega (arith, e, h)))
            (λ (h : m ≤ j).
            let place : m + (j - m) ≡ j = omega (arith, h) in
            ap (sound bytes) (sym place) ∙ sym (alike-sound back bytes _ _ (back-alike halves-whole (j - m)))
            ∙ sound-before back l (j - m) (omega (arith, h, less)))
            (lt_or_le j m)

    pub calls-halves : (k : ℕ) → calls bytes (m + k) ≡ calls front m ++ calls back k
    calls-halves k =
        table-add (call_at bytes) m k
        ∙ (λ t. sym (calls-front m (omega arith)) t
        ++ sym (table_same (call_at back) (λ j. call_at bytes (m + j)) k (λ j l. alike-call back bytes j (m + j) (back-alike halves-whole j))) t)
