-- Texts stored in a buffer: that of a run, and that of the end.
-- Assumes nothing.
use mathlib.Core.Path.{◌≡◌, sym, ap, subst, ◌∙◌}
use mathlib.Core.List.{List, ◌++◌}
use mathlib.Core.Logic.{⊎_elim}
use Prim.Native.Nat.{ℕ, zero, suc, ◌*◌, ◌≤◌, ◌<◌}
use native.Mathlib.Nat.{zero-add}
use native.Mathlib.Omega.{arith}
use borrow.Author.Tests.{lt-ltb, le-ltb, eq-eqb, ne_eqb}
use lib.Dec.{ltb}
use lib.ListN.{length, take}
use lib.Seq.{sets, length-take-le}
use Rattle.number.proofs.Tests.{pick_true, pick_false, lt_or_le}
use Rattle.isa.specs.Call.{Call}
use Rattle.isa.specs.Step.{run}
use Rattle.file.specs.declared.FileRefusal.{FileRefusal}
use Rattle.file.specs.declared.FileRefusal.TheVariants.{Contents}
use Rattle.file.specs.File.{file_refusal_number, run_steps, run_of, records_in, sound_in, fault_at, calls}
use Rattle.file.proofs.Sound.{sound-most, sound-before, sound-whole}
use Rattle.file.proofs.Records.{records-exact}
use Rattle.text.specs.Lines.{steps_line, refused_line}
use Rattle.text.proofs.Pieces.{Stored, stored_append}
use Rattle.steps.specs.Steps.{step_lines}
use Rattle.std.specs.declared.ops.ControlFlow.{ControlFlow}
use Rattle.std.specs.declared.ops.ControlFlow.TheVariants.{Continue, Break}
use Rattle.trace.specs.Trace.{z_lines, end_text}
use Rattle.trace.specs.Runs.{run_text, ran_to, ran_as}
use Rattle.trace.proofs.Halves.{calls-front}
use Rattle.trace.proofs.Divided.{text-on, text-stop}

-- a refusal's line
pub refused-stored : (out out' : List ℕ) (at number r : ℕ) (refusal : FileRefusal) → number ≡ file_refusal_number refusal
    → Stored out at (refused_line number) out' r → Stored out at (refused_line (file_refusal_number refusal)) out' r
refused-stored out out' at number r refusal e s = subst (λ (m : ℕ). Stored out at (refused_line m) out' r) e s

-- what is stored from the front on has its own length
pub stored_front : (out out' text : List ℕ) (r : ℕ) → Stored out 0 text out' r → (out' ≡ sets out 0 text) × (r ≡ length text)
stored_front out out' text r (e, l) = (e, l ∙ zero-add (length text))

-- ---- a run

module _ (m : ℕ) (part : List ℕ) where
  by_last : (k : ℕ) → sound_in part m ≡ k → 16 * k ≤ length part
  by_last zero e = omega arith
  by_last (suc p) e = sound-whole part p (sound-before part m p (omega (arith, e)))

  -- the sound steps are there, so they can be lent
  pub sound-room : (k : ℕ) → k ≡ sound_in part m → 16 * k ≤ length part
  sound-room k e = by_last k (sym e)

  pub lent_length : (k : ℕ) → k ≡ sound_in part m → 16 * k ≡ length (take (16 * k) part)
  lent_length k e = sym (length-take-le (16 * k) part (sound-room k e))

  pub lent-calls : (k : ℕ) → k ≡ sound_in part m → m ≤ run_steps → calls (take (16 * k) part) (records_in (take (16 * k) part)) ≡ calls part k
  lent-calls k e h =
      let lent : List ℕ = take (16 * k) part in
      ap (calls lent) (records-exact lent k (sym (lent_length k e)) (omega (arith, h, e, sound-most part m)))
      ∙ calls-front part k k (omega arith)

-- what a run promises of the state, the buffer and the answer
abbrev pub Runs : ℕ → ℕ → List ℕ → List ℕ → List ℕ → List ℕ → List ℕ → ControlFlow ℕ ℕ → Type 0
Runs m i s part out s' out' r = (s' ≡ ran_to m s part) × (out' ≡ sets out 0 (run_text m i s part)) × (r ≡ ran_as m i s part)

module _ (m left i : ℕ) (told : m ≡ run_of left) (s part out s' out' : List ℕ) (k at : ℕ) (cs : List Call) (found : k ≡ sound_in part m)
    (lent : cs ≡ calls part k) (ran : s' ≡ run cs s) (lines : out' ≡ sets out 0 (step_lines cs i s)) (size : at ≡ length (step_lines cs i s)) where
  these : cs ≡ calls part (sound_in part m)
  these = lent ∙ ap (calls part) found

  -- of the steps that the run has by what is left
  by_left : (out'' : List ℕ) (r : ControlFlow ℕ ℕ) → Runs m i s part out s' out'' r → Runs (run_of left) i s part out s' out'' r
  by_left out'' r runs = subst (λ (j : ℕ). Runs j i s part out s' out'' r) told runs

  state : s' ≡ ran_to m s part
  state = ran ∙ ap (λ (c : List Call). run c s) these

  pub runs_on : k ≡ m → Runs (run_of left) i s part out s' out' (Continue at)
  runs_on e =
      by_left out' (Continue at)
      (let all : sound_in part m ≡ m = sym found ∙ e in
      let text : step_lines cs i s ≡ run_text m i s part =
      ap (λ (c : List Call). step_lines c i s) (lent ∙ ap (calls part) e) ∙ sym (text-on m i s part all)
      in (
        state,
        lines ∙ ap (sets out 0) text,
        ap Continue (size ∙ ap length text) ∙ sym (pick_false _ _ (ap (λ (j : ℕ). ltb j m) all ∙ le-ltb m m (omega arith))),
      ))

  pub runs-stop : (k ≡ m → ⊥) → (refusal : FileRefusal) → refusal ≡ fault_at part k → (out'' : List ℕ) (r : ℕ)
      → Stored out' at (refused_line (file_refusal_number refusal)) out'' r → Runs (run_of left) i s part out s' out'' (Break r)
  runs-stop f refusal e out'' r last =
      by_left out'' (Break r)
      (let less : sound_in part m < m = ⊎_elim (λ h. h) (λ h. absurd (f (omega (arith, found, h, sound-most part m)))) (lt_or_le (sound_in part m) m) in
      let fault : refusal ≡ fault_at part (sound_in part m) = e ∙ ap (fault_at part) found in
      let line : List ℕ = refused_line (file_refusal_number refusal) in
      let both = stored_front out out'' (step_lines cs i s ++ line) r
      (stored_append out out' out'' 0 at r (step_lines cs i s) line (lines, size ∙ sym (zero-add (length (step_lines cs i s)))) last)
      in
      let text : step_lines cs i s ++ line ≡ run_text m i s part =
      (λ t. step_lines (these t) i s ++ refused_line (file_refusal_number (fault t))) ∙ sym (text-stop m i s part less)
      in (
        state,
        both.0 ∙ ap (sets out 0) text,
        ap Break (both.1 ∙ ap length text) ∙ sym (pick_true _ _ (lt-ltb (sound_in part m) m less)),
      ))

-- ---- the end

module _ (registers : List ℕ) (n : ℕ) (s behind out : List ℕ) where
  abbrev pub Ends : List ℕ → ℕ → Type 0
  Ends out' r = (out' ≡ sets out 0 (end_text registers n s behind)) × (r ≡ length (end_text registers n s behind))

  stored-end : (text out' : List ℕ) (r : ℕ) → text ≡ end_text registers n s behind → (out' ≡ sets out 0 text) × (r ≡ length text) → Ends out' r
  stored-end text out' r e (w, l) = (w ∙ ap (sets out 0) e, l ∙ ap length e)

  pub ends-behind : 0 < length behind → (out' : List ℕ) (r : ℕ)
      → (out' ≡ sets out 0 (refused_line (file_refusal_number Contents))) × (r ≡ length (refused_line (file_refusal_number Contents))) → Ends out' r
  ends-behind h out' r stored =
      stored-end (refused_line (file_refusal_number Contents)) out' r
      (sym (pick_false _ _ (ne_eqb (length behind) 0 (λ e. omega (arith, h, e))))) stored

  pub ends-here : length behind ≤ 0 → (out₁ out' : List ℕ) (at r : ℕ)
      → (out₁ ≡ sets out 0 (z_lines registers s)) × (at ≡ length (z_lines registers s)) → Stored out₁ at (steps_line n) out' r → Ends out' r
  ends-here h out₁ out' at r (e, l) last =
      stored-end (z_lines registers s ++ steps_line n) out' r (sym (pick_true _ _ (eq-eqb (length behind) 0 (omega (arith, h)))))
      (stored_front out out' (z_lines registers s ++ steps_line n) r
      (stored_append out out₁ out' 0 at r (z_lines registers s) (steps_line n) (e, l ∙ sym (zero-add (length (z_lines registers s)))) last))
