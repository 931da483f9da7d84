-- A mask as a number: bit k tells whether lane k is enabled.
-- Assumes nothing.
use Rattle.std.specs.Prelude.{◌≡◌, Bool, false, cond, ℕ, ◌*◌, ◌/◌, ◌%◌, ◌^◌, ◌<◌, ltb, leb, eqb}
use Rattle.std.specs.Int.Count.{ones}
use Rattle.isa.specs.Operand.{bit}
use Rattle.isa.specs.Effect.{sum, count}
use Rattle.isa.specs.Enable.{vecint_enables}
use Rattle.isa.specs.Vecint as Vecint

-- the lanes below n that f enables: 2 to the k for each lane k
unfoldable pub mask_of : (ℕ → Bool) → ℕ → ℕ
mask_of f n = sum (λ k. cond (f k) (2 ^ k) 0) n

-- ---- what is said of a mask

-- a bit tells what the rule says of its lane
abbrev pub BitsAreLanes : Type 0
BitsAreLanes = (f : ℕ → Bool) (n k : ℕ) → k < n → bit (mask_of f n) k ≡ f k

-- the ones among the bits of so many lanes are as many as the lanes whose bit is set
abbrev pub OnesAreCounted : Type 0
OnesAreCounted = (m lanes : ℕ) → ones (m % 2 ^ lanes) ≡ count (bit m) lanes

-- ---- vecint's two sides

-- the lane that lane k uses, where each may serve twice
abbrev pub lane_used : Bool → ℕ → ℕ
lane_used halved k = cond halved (k / 2) k

-- how many lanes k the first n lanes of a side serve
abbrev pub places_of : Bool → ℕ → ℕ
places_of halved n = cond halved (2 * n) n

-- lane i of the mask, read at so many lanes
abbrev pub mask_at : ℕ → ℕ → ℕ → Bool
mask_at op lanes i = vecint_enables lanes (Vecint.enable_mode op) (Vecint.enable_value op) i

-- whether a mode and its value n enable every lane, by the branches of the code
abbrev pub enables_all : ℕ → ℕ → Bool
enables_all mode n = cond (eqb n 0) (leb mode 3) (cond (eqb mode 0) (cond (ltb n 3) false (leb n 5)) (eqb mode 1))
