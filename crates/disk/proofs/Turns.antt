-- Runs one behind the other.
-- Assumes nothing.
use mathlib.Core.Path.{◌≡◌, sym, subst}
use mathlib.Core.List.{List}
use Prim.Native.Nat.{ℕ, ◌+◌, ◌≤◌}
use Rattle.std.specs.declared.ops.ControlFlow.{ControlFlow}
use Rattle.std.specs.declared.ops.ControlFlow.TheVariants.{Continue}
use Rattle.file.specs.File.{run_of}
use Rattle.trace.specs.Runs.{room_length}
use Rattle.trace.specs.Reading.{Told}
use Rattle.disk.specs.Shown.{Goes}

module _ (head : List ℕ) (n : ℕ) where
  pub turned_on : (turn : ControlFlow ℕ ℕ) (next i : ℕ) (s : List ℕ) (at : ℕ) → turn ≡ Continue next → Goes turn head n i s at
      → Told head n i s next × (next ≤ at + room_length)
  turned_on turn next i s at e w = subst (λ (x : ControlFlow ℕ ℕ). Goes x head n i s at) e w

  pub told-next : (i m left : ℕ) (s : List ℕ) (at : ℕ) → m ≡ run_of left → Told head n (i + run_of left) s at → Told head n (i + m) s at
  told-next i m left s at e told = subst (λ (k : ℕ). Told head n (i + k) s at) (sym e) told
