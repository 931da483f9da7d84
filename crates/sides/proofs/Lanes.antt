-- Lanes read from bytes, and a side by the branches of the code.
-- Assumes nothing.
use mathlib.Core.Path.{◌≡◌, sym, ap, ◌∙◌}
use mathlib.Core.Bool.{Bool, true, false, cond}
use mathlib.Core.List.{List}
use Prim.Native.Nat.{ℕ, ◌+◌, ◌*◌, ◌/◌, ◌%◌, ◌≤◌, ◌<◌}
use native.Mathlib.Nat.{zero-add}
use native.Mathlib.Omega.{arith}
use lib.IntN.{pos}
use Rattle.std.specs.Prelude.{Option, Some, None}
use lib.ListN.{length, get_or, set, length-set}
use Rattle.number.specs.Bytes.{byte_at, number, table}
use Rattle.number.specs.Integers.{signed, read}
use Rattle.number.proofs.Bytes.{get_d-table}
use Rattle.number.proofs.Slice.{one_byte, number_past}
use Rattle.number.proofs.Fill.{Filled, fill_more}
use Rattle.sides.specs.Sides.{lane_of, lane_bytes, index_of, side_of, pair_of, Holds, HoldsLanes}
use Rattle.sides.proofs.Elements.{side-at}

-- ---- a lane

module _ (sign : Bool) (bytes : List ℕ) where
  pub lane_byte : (j r : ℕ) → signed 2 r ≡ read sign 1 (byte_at bytes j) → signed 2 r ≡ lane_of sign 1 bytes j
  unfolding lane_of
  lane_byte j r e =
      let same : j ≡ 1 * j = omega arith in
      e ∙ ap (read sign 1) (one_byte (byte_at bytes) j ∙ ap (number 1 (byte_at bytes)) same)

  pub lane-pair : (j r : ℕ) → r ≡ pair_of bytes j → read sign 2 r ≡ lane_of sign 2 bytes j
  unfolding lane_of pair_of
  lane-pair j r e = ap (read sign 2) e

module _ (bytes : List ℕ) where
  pub pair_is : (j r : ℕ) → r ≡ number 2 (byte_at bytes) (2 * j) → r ≡ pair_of bytes j
  unfolding pair_of
  pair_is j r e = e

  -- past the bytes
  pub pair-past : length bytes ≡ 64 → (j : ℕ) → 32 ≤ j → pair_of bytes j ≡ 0
  unfolding pair_of
  pair-past size j h = number_past 2 bytes (2 * j) (omega arith)

-- an element that is stored twice
pub twice-more : (xs : List ℕ) (i v : ℕ) (out : List ℕ) → 2 * i + 1 < length out → v ≡ get_or xs i 0
    → Filled 0 (λ k. get_or xs (k / 2) 0) out (2 * i)
    → Filled 0 (λ k. get_or xs (k / 2) 0) (set (set out (2 * i) v) (2 * i + 1) v) (2 * (i + 1))
twice-more xs i v out h e old j l =
    let f : ℕ → ℕ = λ k. get_or xs (k / 2) 0 in
    let even : i ≡ (2 * i) / 2 = omega arith in
    let odd : i ≡ (2 * i + 1) / 2 = omega arith in
    let once : Filled 0 f (set out (2 * i) v) (2 * i + 1) =
    fill_more 0 f (2 * i) v out (omega arith) (e ∙ ap (λ (k : ℕ). get_or xs k 0) even) old
    in
    fill_more 0 f (2 * i + 1) v (set out (2 * i) v) (simp length-set h) (e ∙ ap (λ (k : ℕ). get_or xs k 0) odd) once j (omega arith)

-- ---- a side

module _ (wide sign : Bool) (bytes : List ℕ) (fixed : Option ℕ) (halved : Bool) (n : ℕ) (r : List ℕ) where
  pub side-fixed : (lane v : ℕ) → Holds n r (λ k. v)
      → read (cond wide sign true) 2 v ≡ lane_of sign (lane_bytes wide) bytes (lane % (64 / lane_bytes wide)) → fixed ≡ Some lane
      → HoldsLanes n (cond wide sign true) r (side_of wide sign bytes fixed halved)
  unfolding index_of
  side-fixed lane v same e f k l h =
      ap (read (cond wide sign true) 2) (same k l h)
      ∙ e
      ∙ (λ t. lane_of sign (lane_bytes wide) bytes (index_of wide (sym f t) halved k))
      ∙ sym (side-at wide sign bytes fixed halved k h)

  pub side-bytes : HoldsLanes 64 true r (table (lane_of sign 1 bytes) 0 64) → fixed ≡ None → wide ≡ false
      → HoldsLanes n (cond wide sign true) r (side_of wide sign bytes fixed halved)
  unfolding side_of index_of
  side-bytes e f w k l h =
      (λ t. read (cond (w t) sign true) 2 (get_or r k 0))
      ∙ e k h h
      ∙ (λ t. get_or (side_of (sym w t) sign bytes (sym f t) halved) k (pos 0))

  -- lanes of two bytes, each of them twice or once
  pairs-at : (j k : ℕ) → k < 64 → get_or r k 0 ≡ pair_of bytes j → index_of true None halved k ≡ j → fixed ≡ None → wide ≡ true
      → read (cond wide sign true) 2 (get_or r k 0) ≡ get_or (side_of wide sign bytes fixed halved) k (pos 0)
  pairs-at j k h e i f w =
      (λ t. read (cond (w t) sign true) 2 (get_or r k 0))
      ∙ lane-pair sign bytes j _ e
      ∙ (λ t. lane_of sign (lane_bytes (sym w t)) bytes (sym i t))
      ∙ (λ t. lane_of sign (lane_bytes wide) bytes (index_of (sym w t) (sym f t) halved k))
      ∙ sym (side-at wide sign bytes fixed halved k h)

  pub side-twice : (xs : List ℕ) → xs ≡ table (pair_of bytes) 0 32 → Holds n r (λ k. get_or xs (k / 2) 0) → fixed ≡ None → wide ≡ true → halved ≡ true
      → HoldsLanes n (cond wide sign true) r (side_of wide sign bytes fixed halved)
  unfolding index_of
  side-twice xs ex er f w d k l h =
      pairs-at (k / 2) k h
      (er k l h
      ∙ ap (λ (ys : List ℕ). get_or ys (k / 2) 0) ex
      ∙ get_d-table (pair_of bytes) 0 0 32 (k / 2) (omega arith)
      ∙ ap (pair_of bytes) (zero-add (k / 2)))
      (λ t. index_of true None (d t) k)
      f w

  pub side-once : r ≡ table (pair_of bytes) 0 64 → fixed ≡ None → wide ≡ true → halved ≡ false
      → HoldsLanes n (cond wide sign true) r (side_of wide sign bytes fixed halved)
  unfolding index_of
  side-once er f w d k l h =
      pairs-at k k h
      (ap (λ (ys : List ℕ). get_or ys k 0) er ∙ get_d-table (pair_of bytes) 0 0 64 k h ∙ ap (pair_of bytes) (zero-add k))
      (λ t. index_of true None (d t) k)
      f w
