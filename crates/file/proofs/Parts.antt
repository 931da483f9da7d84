-- Bytes from a position on: as a part of a slice, stored one after another, and stored over a whole list.
-- Assumes nothing.
use mathlib.Core.Path.{◌≡◌, refl, sym, ap, ◌∙◌}
use mathlib.Core.List.{List, [], ◌∷◌, ◌++◌, append-nil, append_assoc}
use Prim.Native.Nat.{ℕ, ◌+◌, ◌-◌, ◌≤◌, ◌<◌}
use native.Mathlib.Nat.{zero-add, le_refl}
use native.Mathlib.Omega.{arith}
use lib.ListN.{length, set, take, drop, length-drop, drop_of_length-le}
use lib.Seq.{sets, sets-eq, drop-drop, take_all, get_or-take, get_or-drop, length-take-le}
use borrow.Rule.Slice.PartMut.{put_mid}
use Rattle.number.specs.Bytes.{byte_at, table}
use Rattle.number.proofs.Bytes.{length-table, get_d-table, table_more}
use Rattle.number.proofs.Fill.{fill-all}
use Rattle.number.proofs.Slice.{sets-joined}
use Rattle.file.specs.File.{bytes_from}

module _ (s : List ℕ) where
  pub length_from : (p n : ℕ) → length (bytes_from s p n) ≡ n
  length_from p n = length-table (λ k. byte_at s (p + k)) 0 n

  pub byte-from : (p n k : ℕ) → k < n → byte_at (bytes_from s p n) k ≡ byte_at s (p + k)
  byte-from p n k h = get_d-table (λ j. byte_at s (p + j)) 0 0 n k h ∙ ap (λ (j : ℕ). byte_at s (p + j)) (zero-add k)

  -- a part of a slice
  part-from : (p n : ℕ) → p + n ≤ length s → take n (drop p s) ≡ bytes_from s p n
  part-from p n h =
      let size : n ≤ length (drop p s) = omega (arith, length-drop p s) in
      fill-all 0 (λ k. byte_at s (p + k)) n n (take n (drop p s)) (length-take-le n (drop p s) size) (le_refl n)
      (λ j l. get_or-take n (drop p s) j 0 l ∙ get_or-drop p s j 0)

  pub part-between : (a e n : ℕ) → a + n ≡ e → e ≤ length s → take (e - a) (drop a s) ≡ bytes_from s a n
  part-between a e n f h =
      let size : e - a ≡ n = omega (arith, f) in
      ap (λ (k : ℕ). take k (drop a s)) size ∙ part-from a n (omega (arith, f, h))

  pub whole_from : (n : ℕ) → length s ≡ n → bytes_from s 0 n ≡ s
  whole_from n e = sym (part-from 0 n (omega (arith, e))) ∙ take_all n s (omega (arith, e))

-- bytes written to a part of a list
pub put-sets : (l vs : List ℕ) (a k : ℕ) → length vs ≡ k → a + k ≤ length l → put_mid a k l vs ≡ sets l a vs
put-sets l vs a k e h =
    let rest : drop k (drop a l) ≡ drop (a + length vs) l = drop-drop k a l ∙ ap (λ (n : ℕ). drop (a + n) l) (sym e) in
    ap (λ (r : List ℕ). take a l ++ (vs ++ r)) rest ∙ sym (append_assoc (take a l) vs (drop (a + length vs) l))
    ∙ sym (sets-eq vs l a (omega (arith, e, h)))

-- bytes stored over a whole list
pub sets-whole : (vs l : List ℕ) → length vs ≡ length l → sets l 0 vs ≡ vs
sets-whole vs l e =
    sets-eq vs l 0 (omega (arith, e))
    ∙ ap (λ (r : List ℕ). vs ++ r) (drop_of_length-le l {i = 0 + length vs} (omega (arith, e))) ∙ append-nil vs
