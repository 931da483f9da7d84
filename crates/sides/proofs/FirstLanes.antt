-- As many lanes as a loop does: the first n of 64.
-- Assumes nothing.
use Rattle.std.proofs.Common.{◌≡◌, ℕ, min, ◌<◌, arith}

pub inside : (n m : ℕ) → m ≡ min n 64 → (k : ℕ) → k < n → k < 64 → k < m
inside n m many k h l = omega (arith, many)
