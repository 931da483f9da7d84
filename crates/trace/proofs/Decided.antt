-- Where a text is decided by what was read, what follows changes nothing.
-- Assumes nothing.
use mathlib.Core.Path.{◌≡◌, refl, sym, ap, ◌∙◌}
use mathlib.Core.Bool.{true, false}
use mathlib.Core.List.{List, ◌++◌}
use Prim.Native.Nat.{ℕ, suc, ◌+◌, ◌*◌, ◌≤◌, ◌<◌}
use native.Mathlib.Omega.{arith}
use borrow.Author.Tests.{lt-ltb, le-ltb, ne_eqb}
use lib.ListN.{length, drop, length-append, length-drop, get_or-append}
use Rattle.number.specs.Bytes.{byte_at}
use Rattle.number.proofs.Tests.{pick_true, pick_false, two, is_false, true_false}
use Rattle.number.proofs.Bytes.{table_same}
use Rattle.file.specs.declared.FileRefusal.{FileRefusal}
use Rattle.file.specs.declared.FileRefusal.TheVariants.{Contents}
use Rattle.std.specs.Prelude.{Err}
use Rattle.file.specs.File.{file_refusal_number, has_checkpoint, checkpoint_length, contents_length, steps_base, steps_end, step_at, sound_in, call_at, calls}
use Rattle.file.specs.File.{contents_right, table_right, head_as}
use Rattle.file.proofs.Sound.{sound-is, sound-before, sound-fault, sound-whole}
use Rattle.file.proofs.Contents.{length-least, length_three, contents-three, contents-table}
use Rattle.file.proofs.Accepted.{not_both, opened-contents}
use Rattle.file.proofs.Heads.{head-contents, head-steps}
use Rattle.text.specs.Lines.{refused_line}
use Rattle.steps.specs.Steps.{step_lines}
use Rattle.trace.specs.Trace.{text_read, checked_text, streamed_text, text_of}
use Rattle.trace.specs.Reading.{Decided}
use Rattle.trace.proofs.Halves.{Alike, alike-sound, alike-call, alike-fault}
use Rattle.trace.proofs.Divided.{behind, by-sound}
use Rattle.trace.proofs.Begins.{has-alike, contents-alike, end-alike, table-alike}

-- ---- files that are refused by their table or their length

module _ (file : List ℕ) (long : contents_length file ≤ length file) where
  abbrev told : List ℕ
  told = refused_line (file_refusal_number Contents)

  wrong-three : has_checkpoint file ≡ true → contents_right file ≡ false → text_of file ≡ told
  unfolding text_of
  wrong-three b f = pick_true _ _ b ∙ ap (checked_text file) (sym (opened-contents file long f))

  wrong-two : has_checkpoint file ≡ false → table_right file ≡ false → text_of file ≡ told
  unfolding text_of
  wrong-two b f = pick_false _ _ b ∙ ap (streamed_text file) (sym (head-contents file long f))

  wrong-table : table_right file ≡ false → text_of file ≡ told
  wrong-table f =
      two (has_checkpoint file) (text_of file ≡ told)
      (λ b. wrong-three b (is_false (contents_right file) (λ e. true_false (sym (contents-table file e) ∙ f))))
      (λ b. wrong-two b f)

  wrong-length : has_checkpoint file ≡ true → (length file ≡ steps_end file + checkpoint_length → ⊥) → text_of file ≡ told
  wrong-length b f = wrong-three b (is_false (contents_right file) (λ e. f (contents-three file e b)))

module _ (front rest : List ℕ) (long : 28 ≤ length front) where
  abbrev file : List ℕ
  file = front ++ rest

  same : (p : ℕ) → p < length front → byte_at file p ≡ byte_at front p
  same p h = get_or-append front rest 0 p h

  reaches : contents_length front ≤ length front → contents_length file ≤ length file
  reaches h = omega (arith, h, contents-alike file front (length front) same long, length-append front rest)

  pub head-decides : (r : FileRefusal) → head_as front ≡ Err r → steps_base front ≤ length front → text_of file ≡ text_of front
  head-decides r refused full =
      let own : contents_length front ≤ length front = omega (arith, full) in
      let wrong : table_right front ≡ false =
      is_false (table_right front) (λ right. not_both (sym refused) (sym (head-steps front own right full)))
      in
      let wrong' : table_right file ≡ false =
      table-alike file front (length front) same long (λ b. omega (arith, full, length_three front b)) ∙ wrong
      in wrong-table file (reaches own) wrong' ∙ sym (wrong-table front own wrong)

  pub length-decides : has_checkpoint front ≡ true → steps_end front + checkpoint_length < length front → text_of file ≡ text_of front
  length-decides b h =
      let own : contents_length front ≤ length front = omega (arith, h) in
      let end : steps_end file ≡ steps_end front = end-alike file front (length front) same long in
      let has : has_checkpoint file ≡ true = has-alike file front (length front) same long ∙ b in
      wrong-length file (reaches own) has (λ e. omega (arith, e, end, h, length-append front rest))
      ∙ sym (wrong-length front own b (λ e. omega (arith, e, h)))

-- ---- steps

module _ (left : ℕ) (bytes rest : List ℕ) where
  abbrev m : ℕ
  m = sound_in bytes left

  longer : (j : ℕ) → step_at (suc j) ≤ length bytes → Alike (bytes ++ rest) bytes j j
  longer j w = record {
    bytes = λ b l. get_or-append bytes rest 0 (16 * j + b) (omega (arith, w, l));
    there = λ e. w;
    back = λ e. omega (arith, w, length-append bytes rest);
  }

  before : (j : ℕ) → j < m → Alike (bytes ++ rest) bytes j j
  before j h = longer j (sound-whole bytes j (sound-before bytes left j h))

  same-calls : calls (bytes ++ rest) m ≡ calls bytes m
  same-calls = table_same (call_at (bytes ++ rest)) (call_at bytes) m (λ j l. alike-call (bytes ++ rest) bytes j j (before j l))

  -- as many are sound, and the text behind them is the same
  decides : (registers : List ℕ) (i : ℕ) (s : List ℕ) → m ≤ left → (m < left → step_at (suc m) ≤ length bytes)
      → behind registers i s (bytes ++ rest) left m ≡ behind registers i s bytes left m
      → text_read registers left i s (bytes ++ rest) ≡ text_read registers left i s bytes
  decides registers i s most w e =
      let sounds : sound_in (bytes ++ rest) left ≡ m =
      sound-is (bytes ++ rest) left m most
      (λ j l. alike-sound (bytes ++ rest) bytes j j (before j l) ∙ sound-before bytes left j l)
      (λ l. alike-sound (bytes ++ rest) bytes m m (longer m (w l)) ∙ sound-fault bytes left l)
      in
      by-sound registers i s (bytes ++ rest) left m sounds ∙ (λ t. step_lines (same-calls t) i s ++ e t)
      ∙ sym (by-sound registers i s bytes left m refl)

  pub fault-decides : (registers : List ℕ) (i : ℕ) (s : List ℕ) → m < left → step_at (suc m) ≤ length bytes
      → text_read registers left i s (bytes ++ rest) ≡ text_read registers left i s bytes
  fault-decides registers i s h w =
      let test = lt-ltb m left h in
      let fault = alike-fault (bytes ++ rest) bytes m m (longer m w) in
      decides registers i s (omega (arith, h)) (λ l. w)
      (pick_true _ _ test ∙ ap (λ (r : FileRefusal). refused_line (file_refusal_number r)) fault ∙ sym (pick_true _ _ test))

  pub end-decides : (registers : List ℕ) (i : ℕ) (s : List ℕ) → m ≡ left → step_at left < length bytes
      → text_read registers left i s (bytes ++ rest) ≡ text_read registers left i s bytes
  end-decides registers i s all h =
      let test = le-ltb m left (omega (arith, all)) in
      let more = ne_eqb (length (drop (step_at m) bytes)) 0 (λ e. omega (arith, e, all, h, length-drop (16 * m) bytes)) in
      let more' =
      ne_eqb (length (drop (step_at m) (bytes ++ rest))) 0
      (λ e. omega (arith, e, all, h, length-drop (16 * m) (bytes ++ rest), length-append bytes rest))
      in
      decides registers i s (omega (arith, all)) (λ l. absurd (omega (arith, l, all)))
      (pick_false _ _ test ∙ pick_false _ _ more' ∙ sym (pick_false _ _ test ∙ pick_false _ _ more))

pub decided : Decided
decided = record {
  heads = λ head rest r refused full. head-decides head rest (omega (arith, full, length-least head)) r refused full;
  steps = λ registers left i s bytes rest h w. fault-decides left bytes rest registers i s h w;
  ends = λ registers left i s bytes rest e h. end-decides left bytes rest registers i s e h;
  checkpoints = λ file rest b h. length-decides file rest (omega (arith, h, length-least file)) b h;
}
