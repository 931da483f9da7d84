-- The text of steps as they are read: in one run, or in several.
-- Assumes nothing.
use mathlib.Core.Path.{◌≡◌, refl, sym, ap, ◌∙◌}
use mathlib.Core.Bool.{cond}
use mathlib.Core.List.{List, [], ◌∷◌, ◌++◌, append-nil, append_assoc}
use mathlib.Core.Logic.{⊎_elim}
use Prim.Native.Nat.{ℕ, ◌+◌, ◌*◌, ◌≤◌, ◌<◌}
use native.Mathlib.Nat.{add-zero}
use native.Mathlib.Omega.{arith}
use borrow.Author.Tests.{lt-ltb, le-ltb, ltb-true, ltb-false}
use lib.Dec.{ltb}
use lib.ListN.{drop}
use lib.Seq.{drop-drop}
use Rattle.number.specs.Bytes.{table}
use Rattle.number.proofs.Tests.{pick_true, pick_false, two, lt_or_le}
use Rattle.isa.specs.Call.{Call}
use Rattle.isa.specs.Step.{run}
use Rattle.file.specs.File.{file_refusal_number, step_at, sound_in, fault_at, calls}
use Rattle.file.proofs.Sound.{sound-most}
use Rattle.file.proofs.Records.{length-calls}
use Rattle.text.specs.Lines.{refused_line}
use Rattle.steps.specs.Steps.{step_lines}
use Rattle.steps.proofs.Joined.{joined}
use Rattle.trace.specs.Trace.{end_text, text_read}
use Rattle.trace.specs.Runs.{run_text, ran_to, total, runs_text, runs_to, Divided}
use Rattle.trace.proofs.Halves.{alike-fault, front, back, front-alike, back-alike, calls-front, halves-stop, halves-whole, halves-on, calls-halves}

-- ---- one run

module _ (m i : ℕ) (s part : List ℕ) where
  pub ran_on : sound_in part m ≡ m → ran_to m s part ≡ run (calls part m) s
  ran_on e = ap (λ (k : ℕ). run (calls part k) s) e

  pub text-on : sound_in part m ≡ m → run_text m i s part ≡ step_lines (calls part m) i s
  text-on e =
      let lines : List ℕ = step_lines (calls part m) i s in
      ap (λ (k : ℕ). step_lines (calls part k) i s ++ cond (ltb k m) (refused_line (file_refusal_number (fault_at part k))) []) e
      ∙ ap (λ (xs : List ℕ). lines ++ xs) (pick_false _ _ (le-ltb m m (omega arith))) ∙ append-nil lines

  pub text-stop : sound_in part m < m
      → run_text m i s part ≡ step_lines (calls part (sound_in part m)) i s ++ refused_line (file_refusal_number (fault_at part (sound_in part m)))
  text-stop h = ap (λ (xs : List ℕ). step_lines (calls part (sound_in part m)) i s ++ xs) (pick_true _ _ (lt-ltb (sound_in part m) m h))

-- ---- the first run, and the rest

module _ (registers : List ℕ) (i : ℕ) (s bytes : List ℕ) where
  pub read_none : text_read registers 0 i s bytes ≡ end_text registers i s bytes
  unfolding sound_in table step_lines
  read_none = ap (λ (n : ℕ). end_text registers n s bytes) (add-zero i)

  -- the text behind k sound steps, where so many are asked for
  abbrev pub behind : ℕ → ℕ → List ℕ
  behind left k =
      cond (ltb k left) (refused_line (file_refusal_number (fault_at bytes k))) (end_text registers (i + k) (run (calls bytes k) s) (drop (step_at k) bytes))

  pub by-sound : (left k : ℕ) → sound_in bytes left ≡ k → text_read registers left i s bytes ≡ step_lines (calls bytes k) i s ++ behind left k
  by-sound left k e = ap (λ (j : ℕ). step_lines (calls bytes j) i s ++ behind left j) e

module _ (registers : List ℕ) (m l i : ℕ) (s bytes : List ℕ) where
  abbrev part : List ℕ
  part = front bytes m

  abbrev rest : List ℕ
  rest = back bytes m

  pub read-stop : sound_in part m < m → text_read registers (m + l) i s bytes ≡ run_text m i s part
  read-stop h =
      let k : ℕ = sound_in part m in
      by-sound registers i s bytes (m + l) k (halves-stop bytes m l h)
      ∙ ap (λ (xs : List ℕ). step_lines (calls bytes k) i s ++ xs) (pick_true _ _ (lt-ltb k (m + l) (omega (arith, h))))
      ∙ (λ t.
      step_lines (sym (calls-front bytes m k (omega (arith, h))) t) i s
      ++ refused_line (file_refusal_number (sym (alike-fault part bytes k k (front-alike bytes m k h)) t)))
      ∙ sym (text-stop m i s part h)

  module _ (e : sound_in part m ≡ m) where
    abbrev k : ℕ
    k = sound_in rest l

    abbrev s' : List ℕ
    s' = run (calls part m) s

    same_test : ltb (m + k) (m + l) ≡ ltb k l
    same_test =
        ⊎_elim
        (λ (h : k < l). lt-ltb (m + k) (m + l) (omega (arith, h)) ∙ sym (lt-ltb k l h))
        (λ (h : l ≤ k). le-ltb (m + k) (m + l) (omega (arith, h)) ∙ sym (le-ltb k l h))
        (lt_or_le k l)

    state-halves : run (calls bytes (m + k)) s ≡ run (calls rest k) s'
    state-halves = ap (λ (cs : List Call). run cs s) (calls-halves bytes m e k) ∙ (joined (calls part m) (calls rest k) i s).0

    lines-halves : step_lines (calls bytes (m + k)) i s ≡ step_lines (calls part m) i s ++ step_lines (calls rest k) (i + m) s'
    lines-halves =
        ap (λ (cs : List Call). step_lines cs i s) (calls-halves bytes m e k) ∙ (joined (calls part m) (calls rest k) i s).1
        ∙ ap (λ (n : ℕ). step_lines (calls part m) i s ++ step_lines (calls rest k) (i + n) s') (length-calls part m)

    bytes_halves : drop (step_at (m + k)) bytes ≡ drop (step_at k) rest
    bytes_halves =
        let place : 16 * (m + k) ≡ 16 * m + 16 * k = omega arith in
        ap (λ (p : ℕ). drop p bytes) place ∙ sym (drop-drop (16 * k) (16 * m) bytes)

    behind-halves : behind registers i s bytes (m + l) (m + k) ≡ behind registers (i + m) s' rest l k
    behind-halves =
        let place : i + (m + k) ≡ i + m + k = omega arith in
        let fault = sym (alike-fault rest bytes k (m + k) (back-alike bytes m (halves-whole bytes m e) k)) in
        λ t.
        cond (same_test t) (refused_line (file_refusal_number (fault t))) (end_text registers (place t) (state-halves t) (bytes_halves t))

    pub read-on : text_read registers (m + l) i s bytes ≡ run_text m i s part ++ text_read registers l (i + m) (ran_to m s part) rest
    read-on =
        by-sound registers i s bytes (m + l) (m + k) (halves-on bytes m e l)
        ∙ (λ t. lines-halves t ++ behind-halves t)
        ∙ append_assoc (step_lines (calls part m) i s) (step_lines (calls rest k) (i + m) s') (behind registers (i + m) s' rest l k)
        ∙ (λ t. sym (text-on m i s part e) t ++ text_read registers l (i + m) (sym (ran_on m i s part e) t) rest)

    pub ran-halves : ran_to (m + l) s bytes ≡ ran_to l (ran_to m s part) rest
    ran-halves =
        ap (λ (j : ℕ). run (calls bytes j) s) (halves-on bytes m e l) ∙ state-halves
        ∙ ap (λ (t : List ℕ). run (calls rest k) t) (sym (ran_on m i s part e))

-- ---- any division

pub divided : Divided
unfolding sound_in table total runs_text runs_to
divided [] registers i s bytes = (sym (read_none registers i s bytes), refl)
divided (m ∷ ms) registers i s bytes =
    two (ltb (sound_in (front bytes m) m) m)
    ((runs_text registers (m ∷ ms) i s bytes ≡ text_read registers (total (m ∷ ms)) i s bytes) × (runs_to (m ∷ ms) s bytes ≡ ran_to (total (m ∷ ms)) s bytes))
    (λ t.
    let part : List ℕ = front bytes m in
    let h : sound_in part m < m = ltb-true (sound_in part m) m t in (
      ap (λ (xs : List ℕ). run_text m i s part ++ xs) (pick_true _ _ t) ∙ append-nil (run_text m i s part)
          ∙ sym (read-stop registers m (total ms) i s bytes h),
      pick_true (ran_to m s part) (runs_to ms (ran_to m s part) (back bytes m)) t
          ∙ ap (λ (cs : List Call). run cs s) (calls-front bytes m (sound_in part m) (omega (arith, h)))
          ∙ sym (ap (λ (k : ℕ). run (calls bytes k) s) (halves-stop bytes m (total ms) h)),
    ))
    (λ f.
    let part : List ℕ = front bytes m in
    let rest : List ℕ = back bytes m in
    let all : sound_in part m ≡ m = omega (arith, sound-most part m, ltb-false (sound_in part m) m f) in
    let next = divided ms registers (i + m) (ran_to m s part) rest in (
      ap (λ (xs : List ℕ). run_text m i s part ++ xs) (pick_false _ _ f ∙ next.0) ∙ sym (read-on registers m (total ms) i s bytes all),
      pick_false _ _ f ∙ next.1 ∙ sym (ran-halves registers m (total ms) i s bytes all),
    ))
