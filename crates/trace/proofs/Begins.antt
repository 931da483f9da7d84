-- Files that begin with the same bytes: what their heads say.
-- Assumes nothing.
use mathlib.Core.Path.{◌≡◌, sym, ap, ◌∙◌}
use mathlib.Core.Bool.{Bool, true, cond, ◌&&◌}
use mathlib.Core.List.{List, ◌++◌}
use Prim.Native.Nat.{ℕ, ◌+◌, ◌*◌, ◌/◌, ◌≤◌, ◌<◌}
use native.Mathlib.Omega.{arith}
use lib.Dec.{eqb, leb}
use lib.ListN.{length, length-append, get_or-append}
use Rattle.number.specs.Bytes.{byte_at, number}
use Rattle.number.proofs.Tests.{two, pick_false}
use Rattle.number.proofs.Bytes.{number_same, table_same}
use Rattle.isa.specs.State.{register_bytes}
use Rattle.std.specs.Prelude.{Ok}
use Rattle.file.specs.File.{bytes_from, section_count, has_checkpoint, checkpoint_length, contents_length, steps_base, step_bytes, most_steps}
use Rattle.file.specs.File.{step_count, steps_end}
use Rattle.file.specs.File.{registers_in, entry_is, sections_right, table_right, head_as}
use Rattle.file.proofs.Contents.{length-least, length_three}
use Rattle.file.proofs.Heads.{head-steps, head-table, head-base, head-count}

module _ (s t : List ℕ) (n : ℕ) (same : (p : ℕ) → p < n → byte_at s p ≡ byte_at t p) where
  number-alike : (b p : ℕ) → p + b ≤ n → number b (byte_at s) p ≡ number b (byte_at t) p
  number-alike b p h = number_same b (byte_at s) (byte_at t) p (λ k l. same (p + k) (omega (arith, h, l)))

  entry-alike : (p kind offset size : ℕ) → p + 12 ≤ n → entry_is s p kind offset size ≡ entry_is t p kind offset size
  unfolding entry_is
  entry-alike p kind offset size h =
      let a = number-alike 2 p (omega (arith, h)) in
      let b = number-alike 2 (p + 2) (omega (arith, h)) in
      let d = number-alike 4 (p + 4) (omega (arith, h)) in
      let e = number-alike 4 (p + 8) (omega (arith, h)) in
      λ u. eqb (a u) kind && eqb (b u) 0 && eqb (d u) offset && eqb (e u) size

  module _ (long : 28 ≤ n) where
    count-alike : section_count s ≡ section_count t
    count-alike = number-alike 4 0 (omega (arith, long))

    pub has-alike : has_checkpoint s ≡ has_checkpoint t
    has-alike = ap (λ (k : ℕ). eqb k 3) count-alike

    pub contents-alike : contents_length s ≡ contents_length t
    contents-alike = ap (λ (b : Bool). cond b 40 28) has-alike

    pub base-alike : steps_base s ≡ steps_base t
    base-alike = ap (λ (k : ℕ). k + 5120) contents-alike

    pub steps_alike : step_count s ≡ step_count t
    steps_alike = ap (λ (k : ℕ). k / 16) (number-alike 4 24 (omega (arith, long)))

    pub end-alike : steps_end s ≡ steps_end t
    end-alike = λ u. base-alike u + 16 * steps_alike u

    sections-alike : sections_right s ≡ sections_right t
    unfolding sections_right
    sections-alike =
        let first : entry_is s 4 1 (contents_length s) register_bytes ≡ entry_is t 4 1 (contents_length t) register_bytes =
        (λ u. entry_is s 4 1 (contents-alike u) register_bytes) ∙ entry-alike 4 1 (contents_length t) register_bytes (omega (arith, long))
        in
        let second : entry_is s 16 2 (steps_base s) (step_bytes * step_count s) ≡ entry_is t 16 2 (steps_base t) (step_bytes * step_count t) =
        (λ u. entry_is s 16 2 (base-alike u) (step_bytes * steps_alike u))
        ∙ entry-alike 16 2 (steps_base t) (step_bytes * step_count t) (omega (arith, long))
        in λ u. leb (steps_alike u) most_steps && first u && second u

    -- the third entry is looked at where there is one
    pub table-alike : (has_checkpoint t ≡ true → 40 ≤ n) → table_right s ≡ table_right t
    unfolding table_right
    table-alike third =
        two (has_checkpoint t) (table_right s ≡ table_right t)
        (λ b.
        let entry : entry_is s 28 3 (steps_end s) checkpoint_length ≡ entry_is t 28 3 (steps_end t) checkpoint_length =
        (λ u. entry_is s 28 3 (end-alike u) checkpoint_length) ∙ entry-alike 28 3 (steps_end t) checkpoint_length (omega (arith, third b))
        in λ u. sections-alike u && cond (has-alike u) (entry u) (eqb (count-alike u) 2))
        (λ b.
        let left : cond (has_checkpoint s) (entry_is s 28 3 (steps_end s) checkpoint_length) (eqb (section_count s) 2) ≡ eqb (section_count s) 2 =
        pick_false _ _ (has-alike ∙ b)
        in
        let right : cond (has_checkpoint t) (entry_is t 28 3 (steps_end t) checkpoint_length) (eqb (section_count t) 2) ≡ eqb (section_count t) 2 =
        pick_false _ _ b
        in
        let tests = left ∙ ap (λ (k : ℕ). eqb k 2) count-alike ∙ sym right in
        λ u. sections-alike u && tests u)

    pub registers-alike : steps_base t ≤ n → registers_in s ≡ registers_in t
    registers-alike h =
        ap (λ (p : ℕ). bytes_from s p register_bytes) contents-alike
        ∙ table_same (λ k. byte_at s (contents_length t + k)) (λ k. byte_at t (contents_length t + k)) register_bytes
        (λ k l. same (contents_length t + k) (omega (arith, h, l)))

-- ---- a head, and more behind it

module _ (head rest : List ℕ) (n : ℕ) (opened : head_as head ≡ Ok n) where
  pub same_head : (p : ℕ) → p < length head → byte_at (head ++ rest) p ≡ byte_at head p
  same_head p h = get_or-append head rest 0 p h

  base : steps_base head ≤ length head
  base = head-base head n opened

  pub long-head : 28 ≤ length head
  long-head = omega (arith, base, length-least head)

  -- an accepted head is accepted whatever follows
  pub head-begins : head_as (head ++ rest) ≡ Ok n
  head-begins =
      let file : List ℕ = head ++ rest in
      let size = length-append head rest in
      let right : table_right file ≡ true =
      table-alike file head (length head) same_head long-head (λ b. omega (arith, base, length_three head b)) ∙ head-table head n opened
      in
      let place = base-alike file head (length head) same_head long-head in
      sym (head-steps file (omega (arith, size, base, place)) right (omega (arith, size, base, place)))
      ∙ ap Ok (steps_alike file head (length head) same_head long-head ∙ head-count head n opened)
