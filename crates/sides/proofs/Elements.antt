-- The elements of a side and of the terms.
-- Assumes nothing.
use mathlib.Core.Path.{◌≡◌, ap, ◌∙◌}
use mathlib.Core.Bool.{Bool, cond}
use mathlib.Core.List.{List}
use Prim.Native.Nat.{ℕ, ◌<◌}
use native.Mathlib.Nat.{zero-add}
use lib.Dec.{ltb}
use Rattle.std.specs.Prelude.{Option}
use lib.IntN.{ℤ, pos}
use lib.ListN.{get_or}
use borrow.Author.Tests.{lt-ltb}
use Rattle.number.specs.Integers.{kept}
use Rattle.number.proofs.Bytes.{get_d-table}
use Rattle.number.proofs.Tests.{pick_true}
use Rattle.sides.specs.Sides.{lane_of, lane_bytes, index_of, side_of, term_of, kept_terms}

pub side-at : (wide sign : Bool) (bytes : List ℕ) (fixed : Option ℕ) (halved : Bool) (k : ℕ) → k < 64
    → get_or (side_of wide sign bytes fixed halved) k (pos 0) ≡ lane_of sign (lane_bytes wide) bytes (index_of wide fixed halved k)
unfolding side_of
side-at wide sign bytes fixed halved k h =
    let f : ℕ → ℤ = λ i. lane_of sign (lane_bytes wide) bytes (index_of wide fixed halved i) in
    get_d-table f (pos 0) 0 64 k h ∙ ap f (zero-add k)

pub kept_at : (n : ℕ) (plus rounds : Bool) (s : ℕ) (xs ys : List ℤ) (k : ℕ) → k < n → k < 64
    → get_or (kept_terms n plus rounds s xs ys) k (pos 0) ≡ kept 4 (term_of plus rounds s (get_or xs k (pos 0)) (get_or ys k (pos 0)))
unfolding kept_terms
kept_at n plus rounds s xs ys k l h =
    let f : ℕ → ℤ = λ i. cond (ltb i n) (kept 4 (term_of plus rounds s (get_or xs i (pos 0)) (get_or ys i (pos 0)))) (pos 0) in
    get_d-table f (pos 0) 0 64 k h ∙ ap f (zero-add k) ∙ pick_true _ _ (lt-ltb k n l)
