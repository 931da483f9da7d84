-- How far a read has come, and the head that is read.
-- Assumes nothing.
use mathlib.Core.Path.{◌≡◌, sym, ap, subst, ◌∙◌}
use mathlib.Core.Bool.{true}
use mathlib.Core.List.{List}
use Prim.Native.Nat.{ℕ, ◌+◌, ◌-◌, ◌≤◌}
use lib.ListN.{length, take, drop, length-take, length-drop}
use lib.Seq.{length-take-le, get_or-take}
use native.Mathlib.Omega.{arith}
use borrow.Rule.Slice.PartMut.{mid_of, put_mid, same_len_mid, take_put}
use Rattle.number.specs.Bytes.{byte_at}
use Rattle.number.proofs.Tests.{true_false}
use Rattle.file.specs.File.{has_checkpoint}
use Rattle.trace.proofs.Begins.{has-alike}
use Rattle.disk.specs.Got.{HeadOf}

-- the bytes that came lie in the buffer, behind the n that were there
pub come : (buffer part : List ℕ) (n more : ℕ) → n ≤ length buffer → length part ≡ length (mid_of n (length buffer - n) buffer)
    → more ≤ length part → n + more ≤ length buffer
come buffer part n more h l w = omega (arith, w, h, l, length-take (length buffer - n) (drop n buffer), length-drop n buffer)

-- what came of a part that is lent as a whole is no longer than the part
pub part_most : (part : List ℕ) (size : ℕ) (part₀ : List ℕ) {k : ℕ} → length part ≡ length part₀ → size ≤ length part → length part₀ ≡ k
    → length (take size part) ≤ k
part_most part size part₀ e h l = omega (arith, e, h, l, length-take size part)

-- ---- a head

-- with or without a checkpoint a head may have so many bytes
pub head_short : (buffer : List ℕ) (n : ℕ) → length buffer ≡ 5160 → n ≤ 5148 → (n ≤ length buffer) × HeadOf (take n buffer)
head_short buffer n size h =
    let least : n ≤ length buffer = omega (arith, size, h) in
    let front = length-take-le n buffer least in
    (least, (omega (arith, front, h), λ _. omega (arith, front, h)))

-- the k bytes before a part are as they were when the part is back, and with them whether there is a checkpoint
module _ (k : ℕ) (long : 28 ≤ k) (buffer part : List ℕ) (size : k ≤ length buffer) (n : ℕ) where
  abbrev after : List ℕ
  after = put_mid k (length buffer - k) buffer part

  has-still : has_checkpoint (take (k + n) after) ≡ has_checkpoint (take k buffer)
  has-still =
      has-alike (take (k + n) after) (take k buffer) k
      (λ p h.
      get_or-take (k + n) after p 0 (omega (arith, h))
      ∙ sym (get_or-take k after p 0 h)
      ∙ ap (λ (s : List ℕ). byte_at s p) (take_put k (length buffer - k) buffer part size))
      long

-- more where there is a checkpoint
pub head_long : (buffer part : List ℕ) (more : ℕ) → length buffer ≡ 5160 → has_checkpoint (take 5148 buffer) ≡ true
    → length part ≡ length (mid_of 5148 (length buffer - 5148) buffer) → more ≤ length part
    → (5148 + more ≤ length (put_mid 5148 (length buffer - 5148) buffer part))
    × HeadOf (take (5148 + more) (put_mid 5148 (length buffer - 5148) buffer part))
head_long buffer part more size has l w =
    let ahead = come buffer part 5148 more (omega (arith, size)) l w in
    let file : List ℕ = put_mid 5148 (length buffer - 5148) buffer part in
    let same : length file ≡ length buffer = same_len_mid 5148 (length buffer - 5148) buffer part l in
    let least : 5148 + more ≤ length file = omega (arith, same, ahead) in (
      least,
      (
        omega (arith, length-take-le (5148 + more) file least, ahead, size),
        λ f. absurd (true_false (sym has ∙ sym (has-still 5148 (omega arith) buffer part (omega (arith, size)) more) ∙ f)),
      ),
    )
