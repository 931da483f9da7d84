-- Texts at the start of a buffer, written: a refusal, a run, and the end.
-- Assumes nothing.
use mathlib.Core.Path.{◌≡◌, refl, sym, ap, subst, ◌∙◌}
use mathlib.Core.Bool.{Bool, true, false}
use mathlib.Core.List.{List, []}
use mathlib.Core.Logic.{⊎_elim}
use Prim.Native.Nat.{ℕ, ◌+◌, ◌-◌, ◌*◌, ◌^◌, ◌≤◌, ◌<◌}
use native.Mathlib.Omega.{arith}
use borrow.Author.Tests.{lt-ltb, le-ltb}
use lib.ListN.{length, take, drop}
use lib.Seq.{sets, length-sets, sets-eq, take-append_seam}
use Rattle.number.proofs.Tests.{pick_true, pick_false, true_false, lt_or_le}
use Rattle.file.specs.declared.FileRefusal.{FileRefusal}
use Rattle.file.specs.File.{file_refusal_number, bytes_from, contents_length, steps_base, registers_in, run_of, sound_in}
use Rattle.file.proofs.Sound.{sound-most}
use Rattle.file.proofs.Parts.{part-between}
use Rattle.text.specs.Lines.{refused_line}
use Rattle.std.specs.declared.ops.ControlFlow.{ControlFlow}
use Rattle.std.specs.declared.ops.ControlFlow.TheVariants.{Continue, Break}
use Rattle.trace.specs.Trace.{end_text, text_read}
use Rattle.trace.specs.Runs.{run_text, ran_to, ran_as, room_length}
use Rattle.trace.specs.Reading.{Follows, Says, Told}
use Rattle.trace.proofs.Short.{run-fits_in, refused-short, fits}
use Rattle.trace.proofs.Room.{sound-room}
use Rattle.trace.proofs.Told.{says-run, told-run, said-stop, said-end}
use Rattle.std.specs.Prelude.{Result, Ok, Err}
use Rattle.disk.specs.declared.Failure.{Failure}
use Rattle.disk.specs.declared.Failure.TheVariants.{Unreadable, Unwritable}
use Rattle.disk.specs.Shown.{IsPrefixLen, Ended, Alone, text_size, RunSays, Wrote, Turned}

-- ---- a text at the start of a buffer

-- it can be lent, and is the text
abbrev pub Held : List ℕ → ℕ → List ℕ → Type 0
Held out r text = (take r out ≡ text) × IsPrefixLen r out

pub held : (out out' text : List ℕ) (r : ℕ) → room_length ≤ length out → length text ≤ room_length → out' ≡ sets out 0 text → r ≡ length text → Held out' r text
held out out' text r room short stored size =
    let inside : 0 + length text ≤ length out = omega (arith, room, short) in
    let front : take r out' ≡ text =
    (λ i. take (size i) ((stored ∙ sets-eq text out 0 inside) i)) ∙ take-append_seam text (drop (0 + length text) out)
    in
    let same : length out' ≡ length out = ap (λ (l : List ℕ). length l) stored ∙ length-sets out 0 text in
    (front, (omega (arith, size, inside, same), size ∙ sym (ap (λ (l : List ℕ). length l) front)))

pub says_held : (head out text : List ℕ) (at r : ℕ) → Held out r text → Says head at text → Says head at (take r out)
says_held head out text at r h s = subst (λ (x : List ℕ). Says head at x) (sym h.0) s

pub ended_at : (head text : List ℕ) (at r : ℕ) → r ≡ length text → Follows head (at + length text) [] → Ended (at + r)
ended_at head text at r e f = record { head = head; ends = subst (λ (k : ℕ). Follows head (at + k) []) (sym e) f }

-- ---- a refusal

pub refused-held : (refusal : FileRefusal) (out out' : List ℕ) (r : ℕ) → room_length ≤ length out
    → (out' ≡ sets out 0 (refused_line (file_refusal_number refusal))) × (r ≡ length (refused_line (file_refusal_number refusal)))
    → Held out' r (refused_line (file_refusal_number refusal))
refused-held refusal out out' r room (e, l) =
    held out out' (refused_line (file_refusal_number refusal)) r room (omega (arith, refused-short refusal)) e l

pub refused-ended : (head : List ℕ) (refusal : FileRefusal) (r : ℕ) → r ≡ length (refused_line (file_refusal_number refusal)) → Alone head refusal → Ended r
refused-ended head refusal r e alone =
    let none : 0 + length (refused_line (file_refusal_number refusal)) ≡ r = omega (arith, e) in
    record { head = head; ends = subst (λ (k : ℕ). Follows head k []) none alone.1 }

-- ---- the end

-- the starting registers, lent as a part of the head
pub registers_part : (head : List ℕ) (base : ℕ) → base ≡ steps_base head → steps_base head ≤ length head
    → take (base - (base - 5120)) (drop (base - 5120) head) ≡ registers_in head
registers_part head base b h =
    let start : base - 5120 ≡ contents_length head = omega (arith, b) in
    part-between head (base - 5120) base 5120 (omega (arith, b)) (omega (arith, b, h)) ∙ ap (λ (p : ℕ). bytes_from head p 5120) start

module _ (head : List ℕ) (n : ℕ) (s : List ℕ) (at : ℕ) (told : Told head n n s at) (small : n < 2 ^ 32) (registers : List ℕ)
    (same : registers ≡ registers_in head) (behind out out' : List ℕ) (r : ℕ) (room : room_length ≤ length out)
    (stored : (out' ≡ sets out 0 (end_text registers n s behind)) × (r ≡ length (end_text registers n s behind))) where
  abbrev text : List ℕ
  text = end_text registers n s behind

  said : Says head at text × Follows head (at + length text) []
  said = subst (λ (x : List ℕ). Says head at (end_text x n s behind) × Follows head (at + length (end_text x n s behind)) []) (sym same)
      (said-end head n n s at told refl behind)

  pub end-held : Held out' r text
  end-held = held out out' text r room (fits 0 n registers s behind small).1 stored.0 stored.1

  pub end-says : Says head at (take r out')
  end-says = says_held head out' text at r end-held said.0

  pub end-most : r ≤ room_length
  end-most = omega (arith, stored.1, (fits 0 n registers s behind small).1)

  pub end-ended : Ended (at + r)
  end-ended = ended_at head text at r stored.1 said.1

-- ---- a run

-- what a run's answer says
module _ (m i : ℕ) (s part : List ℕ) where
  abbrev size : ℕ
  size = length (run_text m i s part)

  stopped-is : sound_in part m < m → ran_as m i s part ≡ Break size
  stopped-is h = pick_true (Break size) (Continue size) (lt-ltb (sound_in part m) m h)

  on-is : sound_in part m ≡ m → ran_as m i s part ≡ Continue size
  on-is e = pick_false (Break size) (Continue size) (le-ltb (sound_in part m) m (omega (arith, e)))

  pub answer-on : (r : ℕ) → Continue r ≡ ran_as m i s part → (sound_in part m ≡ m) × (r ≡ size)
  answer-on r e =
      ⊎_elim
      (λ (h : sound_in part m < m). cc (stopped-is h))
      (λ (h : m ≤ sound_in part m).
      let all : sound_in part m ≡ m = omega (arith, h, sound-most part m) in
      (all, cc (on-is all)))
      (lt_or_le (sound_in part m) m)

  pub answer-stopped : (r : ℕ) → Break r ≡ ran_as m i s part → (sound_in part m < m) × (r ≡ size)
  answer-stopped r e =
      ⊎_elim
      (λ (h : sound_in part m < m). (h, cc (stopped-is h)))
      (λ (h : m ≤ sound_in part m).
      let all : sound_in part m ≡ m = omega (arith, h, sound-most part m) in
      cc (on-is all))
      (lt_or_le (sound_in part m) m)

module _ (head : List ℕ) (n i : ℕ) (s : List ℕ) (at : ℕ) (told : Told head n i s at) (less : i < n) (small : n < 2 ^ 32) (part : List ℕ)
    (got : length part ≤ 16 * run_of (n - i)) where
  abbrev m : ℕ
  m = run_of (n - i)

  abbrev lines : List ℕ
  lines = run_text m i s part

  inside : i + m ≤ n
  inside = omega (arith, less, (run-fits_in (n - i)).1)

  short : length lines ≤ room_length
  short = (fits (n - i) i [] s part (omega (arith, less, small))).0

  whole : sound_in part m ≡ m → length part ≡ 16 * m
  whole all = omega (arith, got, sound-room m part m (sym all))

  stopped : sound_in part m < m → Says head at lines × Follows head (at + length lines) []
  stopped h = said-stop head n i s at told m part inside got h

  -- the text that is to be written
  says_of : (r : ControlFlow ℕ ℕ) → r ≡ ran_as m i s part → Says head at lines × (text_size r ≡ length lines)
  says_of (Continue size) e =
      let on = answer-on m i s part size e in
      (says-run head n i s at told m part inside (whole on.0) on.0, on.1)
  says_of (Break size) e =
      let stop = answer-stopped m i s part size e in
      ((stopped stop.0).0, stop.1)

  pub run-says : (r : ControlFlow ℕ ℕ) (out out' : List ℕ) → room_length ≤ length out → r ≡ ran_as m i s part → out' ≡ sets out 0 lines → RunSays r head at out'
  run-says r out out' room e stored =
      let says = says_of r e in
      let lent = held out out' lines (text_size r) room short stored says.1 in
      (says_held head out' lines at (text_size r) lent says.0, lent.1, omega (arith, says.1, short))

  -- and what holds when it is written
  pub run-turned : (r : ControlFlow ℕ ℕ) (s' : List ℕ) (turn : Result (ControlFlow ℕ ℕ) Failure) → r ≡ ran_as m i s part → s' ≡ ran_to m s part
      → Wrote r at turn → Turned turn head n (i + m) s' at
  run-turned (Continue size) s' (Ok (Continue next)) e state w =
      let on = answer-on m i s part size e in
      let place : at + length lines ≡ next = omega (arith, on.1, w) in (
        λ rest.
            subst (λ (x : List ℕ). Follows head next (text_read (registers_in head) (n - (i + m)) (i + m) x rest)) (sym state)
            (subst (λ (k : ℕ). Follows head k (text_read (registers_in head) (n - (i + m)) (i + m) (ran_to m s part) rest)) place
            (told-run head n i s at told m part inside (whole on.0) on.0 rest)),
        omega (arith, on.1, w, short),
      )
  run-turned (Continue size) s' (Ok (Break all)) e state w = absurd w
  run-turned (Break size) s' (Ok (Continue next)) e state w = absurd w
  run-turned (Break size) s' (Ok (Break all)) e state w =
      let stop = answer-stopped m i s part size e in
      subst Ended (sym w) (ended_at head lines at size stop.1 (stopped stop.0).1)
  run-turned (Continue size) s' (Err (Unwritable x)) e state w = tt
  run-turned (Continue size) s' (Err (Unreadable x)) e state w = absurd w
  run-turned (Break size) s' (Err (Unwritable x)) e state w = tt
  run-turned (Break size) s' (Err (Unreadable x)) e state w = absurd w
