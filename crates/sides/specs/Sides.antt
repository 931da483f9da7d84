-- The lanes of X or Y as integers, and the terms that vecint's ALU makes of them.
-- Assumes nothing.
use Rattle.std.specs.Prelude.{◌≡◌, Bool, true, cond, ◌&&◌, List, ℕ, ◌*◌, ◌/◌, ◌%◌, ◌<◌, ◌≤◌, ltb, ℤ, pos, ◌+ℤ◌, ◌*ℤ◌, get_or, length, Option, Some, None}
use Rattle.number.specs.Bytes.{byte_at, number, table}
use Rattle.number.specs.Integers.{read, kept, ◌≫◌}
use Rattle.sides.specs.declared.SideForm.{SideForm}

-- lane j of b bytes among loaded bytes, signed or not
unfoldable pub lane_of : Bool → ℕ → List ℕ → ℕ → ℤ
lane_of sign b bytes j = read sign b (number b (byte_at bytes) (b * j))

-- bytes of a lane
abbrev pub lane_bytes : Bool → ℕ
lane_bytes wide = cond wide 2 1

-- the lane that lane k uses: one lane for all, or, where the other side is narrower, lane k div 2, or lane k
unfoldable pub index_of : Bool → Option ℕ → Bool → ℕ → ℕ
index_of wide (Some lane) halved k = lane % (64 / lane_bytes wide)
index_of wide None halved k = cond (wide && halved) (k / 2) k

-- the 64 lanes of a side; those past the loaded bytes are 0
unfoldable pub side_of : Bool → Bool → List ℕ → Option ℕ → Bool → List ℤ
side_of wide sign bytes fixed halved = table (λ k. lane_of sign (lane_bytes wide) bytes (index_of wide fixed halved k)) 0 64

-- the same by the fields that the code has
abbrev pub side_by : SideForm → List ℕ → List ℤ
side_by how bytes = side_of how.wide how.sign bytes how.fixed how.halved

-- what the ALU makes of two lanes: a sum or a product, rounded in the saturating modes, shifted right
unfoldable pub term_of : Bool → Bool → ℕ → ℤ → ℤ → ℤ
term_of plus rounds s x y = (cond plus (x +ℤ y) (x *ℤ y) +ℤ cond rounds (pos 16384) (pos 0)) ≫ s

-- of the first n of 64 terms, what 32 bits keep; the others 0
unfoldable pub kept_terms : ℕ → Bool → Bool → ℕ → List ℤ → List ℤ → List ℤ
kept_terms n plus rounds s xs ys =
    table (λ k. cond (ltb k n) (kept 4 (term_of plus rounds s (get_or xs k (pos 0)) (get_or ys k (pos 0)))) (pos 0)) 0 64

-- ---- as the code has it: a side in 64 numbers of 16 bits

-- lane j of two bytes, as a number
unfoldable pub pair_of : List ℕ → ℕ → ℕ
pair_of bytes j = number 2 (byte_at bytes) (2 * j)

-- 16-bit numbers read as signed or not
unfoldable pub values_of : Bool → List ℕ → List ℤ
values_of sign bits = table (λ k. read sign 2 (get_or bits k 0)) 0 64

-- how those of a side are read: lanes of a byte are extended, and read as signed
abbrev pub signed_by : SideForm → Bool
signed_by how = cond how.wide how.sign true

-- what the first n of 64 are, as far as lanes are used; and what they are when read so
abbrev pub Holds : ℕ → List ℕ → (ℕ → ℕ) → Type 0
Holds n bits f = (k : ℕ) → k < n → k < 64 → get_or bits k 0 ≡ f k

abbrev pub HoldsLanes : ℕ → Bool → List ℕ → List ℤ → Type 0
HoldsLanes n sign bits lanes = (k : ℕ) → k < n → k < 64 → read sign 2 (get_or bits k 0) ≡ get_or lanes k (pos 0)

-- the first n of 64 numbers are what a relation gives of those of two sides; the others are 0
unfoldable pub HoldsEach : ℕ → (ℕ → ℕ → ℤ → Type 0) → List ℕ → List ℕ → List ℤ → Type 0
HoldsEach n R xs ys out =
    (length out ≡ 64) × ((k : ℕ) → k < n → k < 64 → R (get_or xs k 0) (get_or ys k 0) (get_or out k (pos 0)))
    × ((k : ℕ) → n ≤ k → get_or out k (pos 0) ≡ pos 0)
