-- How long lines and texts are at most.
-- Assumes nothing.
use mathlib.Core.Path.{◌≡◌}
use mathlib.Core.List.{List, [], ◌++◌}
use mathlib.Core.Logic.{⊎_elim}
use Prim.Native.Nat.{ℕ, zero, suc, ◌+◌, ◌*◌, ◌^◌, ◌≤◌, ◌<◌}
use native.Mathlib.Omega.{arith}
use lib.Dec.{eqb, ltb}
use lib.ListN.{length, length-append}
use Rattle.number.proofs.Tests.{either, lt_or_le}
use Rattle.number.proofs.Bytes.{length-table}
use Rattle.number.specs.Bytes.{byte_at}
use Rattle.file.specs.declared.FileRefusal.{FileRefusal}
use Rattle.file.specs.declared.FileRefusal.TheVariants.{Short, Contents, Padding}
use Rattle.file.specs.File.{file_refusal_number, run_steps, run_of, sound_in, fault_at, calls}
use Rattle.file.proofs.Sound.{sound-most}
use Rattle.file.proofs.Records.{run-few, run-most, length-calls}
use Rattle.text.specs.Lines.{z_line, steps_line, refused_line}
use Rattle.text.proofs.Lengths.{row-short, steps_short, file_short}
use Rattle.steps.specs.Steps.{step_lines}
use Rattle.steps.proofs.Short.{lines_short}
use Rattle.trace.specs.Trace.{row_of, row_changed, row_line, row_lines, z_lines, end_text}
use Rattle.trace.specs.Runs.{run_text, room_length, Fits}

-- ---- lines

pub z_short : (r : ℕ) (bytes : List ℕ) → r < 64 → length bytes ≡ 64 → length (z_line r bytes) ≤ 152
z_short r bytes h size = omega (arith, row-short r bytes (omega arith), size)

row_line_short : (start end : List ℕ) (r : ℕ) → r < 64 → length (row_line start end r) ≤ 152
row_line_short start end r h =
    either (λ (xs : List ℕ). length xs ≤ 152) (row_changed start end r)
    (z_short r (row_of end r) h (length-table (λ k. byte_at end (1024 + r * 64 + k)) 0 64)) (omega arith)

row_lines_short : (start end : List ℕ) (n : ℕ) → n ≤ 64 → length (row_lines start end n) ≤ 152 * n
row_lines_short start end zero h = omega arith
row_lines_short start end (suc n) h =
    omega (arith, length-append (row_lines start end n) (row_line start end n), row_line_short start end n h, row_lines_short start end n (omega arith))

pub refused-short : (r : FileRefusal) → length (refused_line (file_refusal_number r)) ≤ 64
refused-short Short = omega (arith, file_short 5 (omega arith))
refused-short Contents = omega (arith, file_short 6 (omega arith))
refused-short Padding = omega (arith, file_short 7 (omega arith))

-- ---- texts

-- a run has no more steps than a run may have, and than are left
pub run-fits_in : (left : ℕ) → (run_of left ≤ run_steps) × (run_of left ≤ left)
run-fits_in left =
    ⊎_elim
    (λ (h : left < run_steps). (omega (arith, h, run-few left h), omega (arith, run-few left h)))
    (λ (h : run_steps ≤ left). (omega (arith, run-most left h), omega (arith, h, run-most left h)))
    (lt_or_le left run_steps)

module _ (left i : ℕ) (registers s bytes : List ℕ) (h : i < 2 ^ 32) where
  abbrev k : ℕ
  k = sound_in bytes (run_of left)

  run_fits : length (run_text (run_of left) i s bytes) ≤ room_length
  run_fits =
      let lines : List ℕ = step_lines (calls bytes k) i s in
      let count = length-calls bytes k in
      let few : k ≤ 2048 = omega (arith, sound-most bytes (run_of left), (run-fits_in left).0) in
      either (λ (xs : List ℕ). length (lines ++ xs) ≤ room_length) (ltb k (run_of left))
      (omega (
        arith,
        length-append lines (refused_line (file_refusal_number (fault_at bytes k))),
        refused-short (fault_at bytes k),
        lines_short (calls bytes k) i s (omega (arith, h, count, few)),
        count,
        few,
      ))
      (omega (arith, length-append lines [], lines_short (calls bytes k) i s (omega (arith, h, count, few)), count, few))

  end_fits : length (end_text registers i s bytes) ≤ room_length
  end_fits =
      either (λ (xs : List ℕ). length xs ≤ room_length) (eqb (length bytes) 0)
      (omega (arith, length-append (z_lines registers s) (steps_line i), row_lines_short registers s 64 (omega arith), steps_short i (omega (arith, h))))
      (omega (arith, refused-short Contents))

pub fits : Fits
fits left i registers s bytes h = (run_fits left i registers s bytes h, end_fits left i registers s bytes h)
