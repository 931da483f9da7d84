-- A reader at record i of n: what it finds there, and where it then is.
-- Assumes nothing.
use mathlib.Core.Path.{◌≡◌, sym, ap}
use mathlib.Core.List.{List}
use Prim.Native.Nat.{ℕ, ◌+◌, ◌<◌}
use denote.Ref.{Bor}
use Rattle.std.specs.Prelude.{Option, Some}
use Rattle.file.specs.declared.Cursor.{Cursor}
use Rattle.isa.specs.Call.{Call}
use Rattle.file.specs.File.{run_steps, call_at, cursor}
use Rattle.file.proofs.Records.{read_step}
use Rattle.reader.specs.Reading.{found_of, found_as, reader_at, moved}

pub found_record : (steps : List ℕ) (i n : ℕ) → i < n → i < run_steps
    → found_as steps (cursor i n) ≡ (Some (call_at steps i), cursor (i + 1) n)
unfolding found_as
found_record steps i n h l = ap (found_of (cursor i n)) (sym (read_step steps i n h l))

pub moved_on : (steps : Bor (List ℕ)) (i n : ℕ) → i < n → i < run_steps → moved (reader_at steps (cursor i n)) ≡ reader_at steps (cursor (i + 1) n)
moved_on steps i n h l = ap (λ (f : Option Call × Cursor). reader_at steps f.1) (found_record steps.now i n h l)
