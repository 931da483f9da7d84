-- What is printed while a file is read: one run more, the end, and a refusal.
-- Assumes nothing.
use mathlib.Core.Path.{◌≡◌, refl, sym, ap, subst, ◌∙◌}
use mathlib.Core.List.{List, [], ◌++◌, append-nil, append_assoc}
use Prim.Native.Nat.{ℕ, ◌+◌, ◌-◌, ◌*◌, ◌≤◌, ◌<◌}
use native.Mathlib.Omega.{arith}
use lib.ListN.{length, take, length-append}
use lib.Seq.{take_at, drop_at, take_all}
use Rattle.file.specs.File.{registers_in, sound_in}
use Rattle.trace.specs.Trace.{end_text, text_read}
use Rattle.trace.specs.Runs.{run_text, ran_to}
use Rattle.trace.specs.Reading.{shown, Follows, Says, Told}
use Rattle.trace.proofs.Halves.{front, back}
use Rattle.trace.proofs.Divided.{read_none, read-stop, read-on}

-- ---- a text, and what follows it

module _ (head : List ℕ) (at : ℕ) where
  pub follows_on : (text after : List ℕ) → Follows head at (text ++ after) → Follows head (at + length text) after
  follows_on text after f = record {
    file = f.file;
    again = f.again;
    before = f.before ++ text;
    begins = f.begins;
    there = f.there ∙ sym (append_assoc f.before text after);
    place = length-append f.before text ∙ ap (λ (k : ℕ). k + length text) f.place;
  }

  pub follows_same : (text text' : List ℕ) → text ≡ text' → Follows head at text → Follows head at text'
  follows_same text text' e f = subst (λ (x : List ℕ). Follows head at x) e f

  -- the last of it
  pub said-last : (text : List ℕ) → Follows head at text → Says head at text × Follows head (at + length text) []
  said-last text f =
      let last : Follows head at (text ++ []) = follows_same text (text ++ []) (sym (append-nil text)) f in
      (record { after = []; follows = last }, follows_on text [] last)

-- ---- while steps are read

module _ (head : List ℕ) (n i : ℕ) (s : List ℕ) (at : ℕ) (told : Told head n i s at) where
  abbrev registers : List ℕ
  registers = registers_in head

  module _ (m : ℕ) (part : List ℕ) (fits : i + m ≤ n) where
    abbrev l : ℕ
    l = n - (i + m)

    count : n - i ≡ m + l
    count = omega (arith, fits)

    module _ (size : length part ≡ 16 * m) (all : sound_in part m ≡ m) where
      one-run : (rest : List ℕ)
          → Follows head at (run_text m i s part ++ text_read registers l (i + m) (ran_to m s part) rest)
      one-run rest =
          let first : front (part ++ rest) m ≡ part = take_at part rest (16 * m) size in
          let behind : back (part ++ rest) m ≡ rest = drop_at part rest (16 * m) size in
          let text =
          ap (λ (k : ℕ). text_read registers k i s (part ++ rest)) count
          ∙ read-on registers m l i s (part ++ rest) (ap (λ (x : List ℕ). sound_in x m) first ∙ all)
          ∙ (λ t. run_text m i s (first t) ++ text_read registers l (i + m) (ran_to m s (first t)) (behind t))
          in follows_same head at _ _ text (told (part ++ rest))

      pub says-run : Says head at (run_text m i s part)
      says-run = record { after = text_read registers l (i + m) (ran_to m s part) []; follows = one-run [] }

      pub told-run : Told head n (i + m) (ran_to m s part) (at + length (run_text m i s part))
      told-run rest = follows_on head at (run_text m i s part) (text_read registers l (i + m) (ran_to m s part) rest) (one-run rest)

    pub said-stop : length part ≤ 16 * m → sound_in part m < m
        → Says head at (run_text m i s part) × Follows head (at + length (run_text m i s part)) []
    said-stop size less =
        let whole : front part m ≡ part = take_all (16 * m) part size in
        let text =
        ap (λ (k : ℕ). text_read registers k i s part) count
        ∙ read-stop registers m l i s part (subst (λ (x : List ℕ). sound_in x m < m) (sym whole) less)
        ∙ ap (run_text m i s) whole
        in said-last head at (run_text m i s part) (follows_same head at _ _ text (told part))

  pub said-end : n ≡ i → (behind : List ℕ)
      → Says head at (end_text registers i s behind) × Follows head (at + length (end_text registers i s behind)) []
  said-end e behind =
      let none : n - i ≡ 0 = omega (arith, e) in
      said-last head at (end_text registers i s behind)
      (follows_same head at _ _ (ap (λ (k : ℕ). text_read registers k i s behind) none ∙ read_none registers i s behind) (told behind))

-- ---- a file that prints one refusal

pub said-alone : (head file text : List ℕ) → take (length head) file ≡ head → shown file [] ≡ text
    → Says head 0 text × Follows head (0 + length text) []
said-alone head file text b e =
    said-last head 0 text (record { file = file; again = []; before = []; begins = b; there = e; place = refl })
