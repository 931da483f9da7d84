-- Pieces of a list by their positions: those that a list was joined of stand in it one behind the other.
-- Assumes nothing.
use mathlib.Core.Path.{◌≡◌, refl, sym, ap, ◌∙◌}
use mathlib.Core.Bool.{true, ◌&&◌}
use mathlib.Core.List.{List, ◌++◌}
use Prim.Native.Nat.{ℕ, ◌+◌, ◌^◌, ◌<◌}
use native.Mathlib.Nat.{zero-add, le_refl, mod-eq_of_lt}
use native.Mathlib.Omega.{arith}
use borrow.Author.Tests.{eq-eqb}
use lib.ListN.{length, length-append, get_or-append}
use lib.Seq.{get_or-append-add}
use Rattle.number.specs.Bytes.{span, byte_at, number, byte_of, table, bytes_of}
use Rattle.number.proofs.Bytes.{length-table, get_d-table, number-bytes}
use Rattle.number.proofs.Fill.{fill-all}
use Rattle.file.specs.File.{bytes_from, entry_is}
use Rattle.trace.specs.Resume.{entry_of}

-- xs stands in s from position p on
abbrev pub Stands : List ℕ → ℕ → List ℕ → Type 0
Stands s p xs = (k : ℕ) → k < length xs → byte_at s (p + k) ≡ byte_at xs k

module _ (s : List ℕ) where
  pub stands-whole : Stands s 0 s
  stands-whole k h = ap (byte_at s) (zero-add k)

  module _ (p : ℕ) where
    pub stands-front : (xs ys : List ℕ) → Stands s p (xs ++ ys) → Stands s p xs
    stands-front xs ys st k h = st k (omega (arith, h, length-append xs ys)) ∙ get_or-append xs ys 0 k h

    pub stands-back : (xs ys : List ℕ) (q : ℕ) → p + length xs ≡ q → Stands s p (xs ++ ys) → Stands s q ys
    stands-back xs ys q e st k h =
        let place : q + k ≡ p + (length xs + k) = omega (arith, e) in
        ap (byte_at s) place ∙ st (length xs + k) (omega (arith, h, length-append xs ys)) ∙ get_or-append-add xs ys k 0

    -- a piece of n bytes is what is read there
    pub stands_from : (xs : List ℕ) (n : ℕ) → length xs ≡ n → Stands s p xs → bytes_from s p n ≡ xs
    stands_from xs n e st =
        sym (fill-all 0 (λ k. byte_at s (p + k)) n n xs e (le_refl n) (λ k h. sym (st k (omega (arith, h, e)))))

    pub stands-number : (b n : ℕ) → n < span b → Stands s p (bytes_of b n) → number b (byte_at s) p ≡ n
    stands-number b n h st =
        number-bytes b (byte_at s) p n
        (λ k l. st k (omega (arith, l, length-table (byte_of n) 0 b)) ∙ get_d-table (byte_of n) 0 0 b k l ∙ ap (byte_of n) (zero-add k))
        ∙ mod-eq_of_lt h

-- ---- an entry of a table of contents

module _ (s : List ℕ) (p kind offset size : ℕ) (st : Stands s p (entry_of kind offset size)) where
  abbrev zero : List ℕ
  zero = bytes_of 2 kind ++ bytes_of 2 0

  abbrev three : List ℕ
  three = zero ++ bytes_of 4 offset

  front : Stands s p three
  front = stands-front s p three (bytes_of 4 size) st

  pub entry-size : size < 2 ^ 32 → number 4 (byte_at s) (p + 8) ≡ size
  unfolding table
  entry-size h = stands-number s (p + 8) 4 size h (stands-back s p three (bytes_of 4 size) (p + 8) refl st)

  pub entry-stands : kind < 2 ^ 16 → offset < 2 ^ 32 → size < 2 ^ 32 → entry_is s p kind offset size ≡ true
  unfolding entry_is table
  entry-stands h l m =
      let first : Stands s p zero = stands-front s p zero (bytes_of 4 offset) front in
      let a : number 2 (byte_at s) p ≡ kind = stands-number s p 2 kind h (stands-front s p (bytes_of 2 kind) (bytes_of 2 0) first) in
      let b : number 2 (byte_at s) (p + 2) ≡ 0 =
      stands-number s (p + 2) 2 0 (omega arith) (stands-back s p (bytes_of 2 kind) (bytes_of 2 0) (p + 2) refl first)
      in
      let d : number 4 (byte_at s) (p + 4) ≡ offset =
      stands-number s (p + 4) 4 offset l (stands-back s p zero (bytes_of 4 offset) (p + 4) refl front)
      in λ t. eq-eqb _ kind a t && eq-eqb _ 0 b t && eq-eqb _ offset d t && eq-eqb _ size (entry-size m) t
