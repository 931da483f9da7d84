-- A state by its registers and its count.
-- Assumes nothing.
use mathlib.Core.Path.{◌≡◌, refl, sym, ap, ◌∙◌}
use mathlib.Core.List.{List, [], ◌∷◌, ◌++◌}
use Prim.Native.Nat.{ℕ, ◌+◌, ◌%◌, ◌≤◌, ◌<◌}
use native.Mathlib.Nat.{mod-lt, mod-mod}
use native.Mathlib.Omega.{arith}
use lib.Dec.{lit<}
use lib.ListN.{length, take, drop_of_length-le, length-append, get_or-append}
use lib.Seq.{sets, sets-eq, length-take-le, take-take, take_at, get_or-take, get_or-append-add}
use Rattle.number.specs.Bytes.{span, byte_at, number, byte_of, bytes_of}
use Rattle.number.proofs.Bytes.{length-table, get_d-table, number-bytes}
use Rattle.isa.specs.State.{registers_of, count_of, state_of}

-- ---- of any state

pub count-lt : (s : List ℕ) → count_of s < span 8
unfolding count_of
count-lt s = mod-lt (number 8 (byte_at s) 5120) (lit< tt)

pub length-registers : (s : List ℕ) → length s ≡ 5128 → length (registers_of s) ≡ 5120
length-registers s size = length-take-le 5120 s (omega (arith, size))

pub byte-registers : (s : List ℕ) (p : ℕ) → p < 5120 → byte_at (registers_of s) p ≡ byte_at s p
byte-registers s p h = get_or-take 5120 s p 0 h

pub xy_registers : (s : List ℕ) → take 1024 (registers_of s) ≡ take 1024 s
xy_registers s = take-take 1024 5120 s (omega arith)

nothing-behind : (l : List ℕ) → l ++ [] ≡ l
nothing-behind [] = refl
nothing-behind (x ∷ l) = ap (λ (r : List ℕ). x ∷ r) (nothing-behind l)

-- another count, as it is stored
pub count-stored : (s : List ℕ) (n : ℕ) → length s ≡ 5128 → sets s 5120 (bytes_of 8 n) ≡ state_of (registers_of s) n
count-stored s n size =
    let eight : length (bytes_of 8 n) ≡ 8 = length-table (byte_of n) 0 8 in
    let end : length s ≤ 5120 + length (bytes_of 8 n) = omega (arith, eight, size) in
    sets-eq (bytes_of 8 n) s 5120 (omega (arith, eight, size))
    ∙ ap (λ (l : List ℕ). registers_of s ++ bytes_of 8 n ++ l) (drop_of_length-le s end)
    ∙ nothing-behind (registers_of s ++ bytes_of 8 n)

-- ---- of registers and a count

module _ (r : List ℕ) (n : ℕ) (size : length r ≡ 5120) where
  pub length-state : length (state_of r n) ≡ 5128
  length-state = length-append r (bytes_of 8 n) ∙ omega (arith, size, length-table (byte_of n) 0 8)

  pub registers-state : registers_of (state_of r n) ≡ r
  registers-state = take_at r (bytes_of 8 n) 5120 size

  pub byte-state : (p : ℕ) → p < 5120 → byte_at (state_of r n) p ≡ byte_at r p
  byte-state p h = get_or-append r (bytes_of 8 n) 0 p (omega (arith, size))

  pub count-state : count_of (state_of r n) ≡ n % span 8
  unfolding count_of
  count-state = ap (λ (x : ℕ). x % span 8) (number-bytes 8 (byte_at (state_of r n)) 5120 n byte) ∙ mod-mod n (span 8)
    where
      byte : (k : ℕ) → k < 8 → byte_at (state_of r n) (5120 + k) ≡ byte_of n k
      byte k h =
          ap (λ (x : ℕ). byte_at (state_of r n) (x + k)) (sym size)
          ∙ get_or-append-add r (bytes_of 8 n) k 0
          ∙ get_d-table (byte_of n) 0 0 8 k h
          ∙ ap (byte_of n) (omega arith)
