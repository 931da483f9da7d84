-- The factors of X and Y: as the code puts them together, and what they are to the meaning.
-- Assumes nothing.
use mathlib.Core.Path.{◌≡◌, sym, ap, ◌∙◌}
use mathlib.Core.Bool.{Bool, true, false, cond}
use mathlib.Core.List.{List}
use Prim.Native.Nat.{ℕ, ◌+◌, ◌*◌, ◌/◌, ◌%◌, ◌<◌}
use native.Mathlib.Nat.{zero-add}
use lib.IntN.{ℤ, pos}
use native.Mathlib.Omega.{arith}
use lib.ListN.{get_or}
use Rattle.number.proofs.Bytes.{get_d-table, table_same}
use Rattle.number.proofs.Tests.{pick_true, pick_false}
use Rattle.isa.specs.Mac16 as Mac16
use Rattle.number.specs.Bytes.{byte_at, table}
use Rattle.isa.specs.Operand.{bits, bit}
use Rattle.isa.specs.State.{x_base, y_base}
use Rattle.mac16.specs.Products.{side, masked, other_than_x, loaded_bytes, split, x_side, y_factors}

-- a side, by the branches of the code
module _ (i8 skip : Bool) (other : ℤ) (bytes : List ℕ) where
  pub side-skipped : skip ≡ true → table (λ i. other) 0 32 ≡ table (side i8 skip other bytes) 0 32
  unfolding side
  side-skipped e = λ t. table (λ i. sym (pick_true other (Mac16.lane i8 (byte_at bytes) i) e) t) 0 32

  pub side-lanes : (kind : Bool) → skip ≡ false → kind ≡ i8 → table (Mac16.lane kind (byte_at bytes)) 0 32 ≡ table (side i8 skip other bytes) 0 32
  unfolding side
  side-lanes kind e k =
      (λ t. table (Mac16.lane (k t) (byte_at bytes)) 0 32) ∙ (λ t. table (λ i. sym (pick_false other (Mac16.lane i8 (byte_at bytes) i) e) t) 0 32)

-- an element under a mask
pub masked-at : (on : List Bool) (xs : List ℤ) (k : ℕ) → k < 32 → get_or (masked on xs) k (pos 0) ≡ cond (get_or on k false) (get_or xs k (pos 0)) (pos 0)
unfolding masked
masked-at on xs k h =
    let f : ℕ → ℤ = λ i. cond (get_or on i false) (get_or xs i (pos 0)) (pos 0) in
    get_d-table f (pos 0) 0 32 k h ∙ ap f (zero-add k)

pub split_at : {A : Type 0} (d : A) (xs : List A) (k : ℕ) → k < 32 → get_or (split d xs) k d ≡ get_or xs (2 * (k % 16) + k / 16) d
unfolding split
split_at d xs k h =
    get_d-table (λ i. get_or xs (2 * (i % 16) + i / 16) d) d 0 32 k h ∙ ap (λ (i : ℕ). get_or xs (2 * (i % 16) + i / 16) d) (zero-add k)

-- masked and split in either order
pub split-masked : (on : List Bool) (xs : List ℤ) → masked (split false on) (split (pos 0) xs) ≡ split (pos 0) (masked on xs)
unfolding masked split
split-masked on xs =
    table_same (λ k. cond (get_or (split false on) k false) (get_or (split (pos 0) xs) k (pos 0)) (pos 0))
    (λ k. get_or (masked on xs) (2 * (k % 16) + k / 16) (pos 0)) 32
    (λ k h.
    (λ t. cond (split_at false on k h t) (split_at (pos 0) xs k h t) (pos 0)) ∙ sym (masked-at on xs (2 * (k % 16) + k / 16) (omega arith)))

-- from the parts that the code has read
module _ (op : ℕ) (s : List ℕ) (r : List ℤ) (bytes : List ℕ) (offset : ℕ) (i8 skip : Bool) where
  pub x-side-is : (other : ℤ) → r ≡ table (side i8 skip other bytes) 0 32
      → bytes ≡ loaded_bytes s x_base offset → offset ≡ bits op 10 18 → i8 ≡ bit op 61 → skip ≡ bit op 29 → other ≡ other_than_x op → r ≡ x_side op s
  unfolding x_side
  x-side-is other er eb eo e8 es et = er ∙ (λ t. table (side (e8 t) (es t) (et t) ((eb ∙ ap (loaded_bytes s x_base) eo) t)) 0 32)

  pub y-factors-are : r ≡ table (side i8 skip (pos 1) bytes) 0 32
      → bytes ≡ loaded_bytes s y_base offset → offset ≡ bits op 0 8 → i8 ≡ bit op 60 → skip ≡ bit op 28 → r ≡ y_factors op s
  unfolding y_factors
  y-factors-are er eb eo e8 es = er ∙ (λ t. table (side (e8 t) (es t) (pos 1) ((eb ∙ ap (loaded_bytes s y_base) eo) t)) 0 32)
