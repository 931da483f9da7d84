-- What a loop that runs records has done after i of them.
-- Assumes nothing.
use mathlib.Core.Path.{◌≡◌, refl, sym, ap, subst, ◌∙◌}
use mathlib.Core.List.{List, [], ◌∷◌, ◌++◌}
use Prim.Native.Nat.{ℕ, ◌+◌, ◌*◌, ◌≤◌, ◌<◌}
use native.Mathlib.Omega.{arith}
use lib.ListN.{length}
use lib.Seq.{sets}
use Rattle.number.specs.Bytes.{table}
use Rattle.isa.specs.Call.{Call}
use Rattle.isa.specs.State.{count_of}
use Rattle.isa.specs.Step.{step_due, run}
use Rattle.isa.proofs.Step.{stepped-length}
use Rattle.file.specs.File.{call_at, calls, cursor}
use Rattle.text.proofs.Pieces.{Stored, stored_append}
use Rattle.std.specs.Prelude.{Option, Some}
use Rattle.file.specs.declared.Cursor.{Cursor}
use Rattle.reader.specs.declared.Reader.{Reader}
use Rattle.reader.specs.Reading.{found_as}
use Rattle.reader.proofs.Records.{found_record}
use Rattle.steps.specs.Steps.{step_lines, state_by, line_by}
use Rattle.steps.proofs.Joined.{run_more, lines_more}
use Rattle.steps.proofs.Branches.{RanOne}

pub length_run : (cs : List Call) (s : List ℕ) → length (run cs s) ≡ length s
length_run [] s = refl
length_run (c ∷ cs) s = length_run cs (step_due c s) ∙ stepped-length c (count_of s) s

-- a reader of these bytes that stands at record i of n finds it
pub found-there : (steps : List ℕ) (i n : ℕ) (r : Reader) → r.steps.now ≡ steps → r.cursor ≡ cursor i n → i < n → i < 2048
    → (found_as r.steps.now r.cursor).0 ≡ Some (call_at steps i)
found-there steps i n r bytes place h most =
    (λ t. (found_as (bytes t) (place t)).0) ∙ ap (λ (f : Option Call × Cursor). f.0) (found_record steps i n h most)

module _ (steps s₀ o₀ : List ℕ) (first : ℕ) where
  abbrev lines : ℕ → List ℕ
  lines i = step_lines (calls steps i) first s₀

  -- the state, the buffer and the position after i records
  abbrev pub Ran : ℕ → List ℕ → List ℕ → ℕ → Type 0
  Ran i s o at = (s ≡ run (calls steps i) s₀) × Stored o₀ 0 (lines i) o at × (at ≤ 55 * i)

  -- what the whole run ensures of n records
  abbrev pub RanAll : ℕ → List ℕ → List ℕ → ℕ → Type 0
  RanAll n s o at = (s ≡ run (calls steps n) s₀) × (o ≡ sets o₀ 0 (lines n)) × (at ≡ length (lines n)) × (at ≤ 55 * n)

  pub ran-none : Ran 0 s₀ o₀ 0
  unfolding step_lines table
  ran-none = (refl, (refl, refl), omega arith)

  module _ {s o : List ℕ} {at : ℕ} where
    -- one more: record i was found and run
    pub ran-more : (i : ℕ) → Ran i s o at → (r : Call) → Some r ≡ Some (call_at steps i)
        → {s' o' : List ℕ} {at' : ℕ} → RanOne s o at (first + i) r s' o' at' → at' ≤ at + 55 → Ran (i + 1) s' o' at'
    ran-more i ran r there {s'} {o'} {at'} one short =
        let was : (s ≡ run (calls steps i) s₀) = ran.0 in (
          one.0 ∙ (λ t. state_by (was t) (there t)) ∙ sym (run_more steps i s₀),
          subst (λ (xs : List ℕ). Stored o₀ 0 xs o' at')
              (ap (λ (xs : List ℕ). lines i ++ xs) (λ t. line_by (first + i) (was t) (there t)) ∙ sym (lines_more steps i first s₀))
              (stored_append o₀ o o' 0 at at' (lines i) (line_by (first + i) s (Some r)) ran.1 (one.1, one.2)),
          omega (arith, short, ran.2),
        )

    -- all of the whole records
    pub ran-records : (n m : ℕ) → n ≡ m → n ≤ 2048 → RanAll n s o at
        → ((s ≡ run (calls steps m) s₀) × (o ≡ sets o₀ 0 (lines m)) × (at ≡ length (lines m))) × (at ≤ 112640)
    ran-records n m same most ran =
        let all : RanAll m s o at = subst (λ (k : ℕ). RanAll k s o at) same ran in
        ((all.0, all.1, all.2), omega (arith, ran.3))
