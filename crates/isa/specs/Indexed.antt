-- Indexed loads: which bytes they give and where several vectors read their indices; that such a step is done and only adds; and that a load
-- without bit 53 is what it was.
-- Assumes nothing.
use Rattle.std.specs.Prelude.{◌≡◌, true, false, cond, ◌&&◌, ◌||◌, List, [], ◌∷◌, map, ◌⊎◌, ℕ, ◌+◌, ◌*◌, ◌/◌, ◌%◌, ◌^◌, ◌<◌, ℤ, pos, length}
use Rattle.number.specs.Bytes.{table}
use Rattle.isa.specs.declared.Answer.TheVariants.{Done}
use Rattle.isa.specs.Operand.{bits, bit}
use Rattle.isa.specs.State.{state_length, x_base, y_base, row_bytes, loaded}
use Rattle.isa.specs.Effect.{bytes_on}
use Rattle.isa.specs.Vecint as Vecint
use Rattle.isa.specs.Call.{call, effect_of}
use Rattle.isa.specs.Answers.{own_answer}
use Rattle.isa.specs.Normal.{normal_operand}
use Rattle.isa.specs.Swap.{CountLeft, Allowed}
use Rattle.isa.specs.Edges.{Edge, edge}
use Rattle.isa.specs.Guards.{Pin, pin}

-- ---- bytes

-- X and Y with each byte's position in it, modulo 251: a byte tells where it came from
abbrev positions : List ℕ
positions = table (λ p. p % 251) 0 1024

abbrev numbers : List ℕ → List ℤ
numbers = map pos

-- the first n bytes that X, and that Y, has for vector v
abbrev x_first : ℕ → ℕ → ℕ → ℕ → List ℤ
x_first gen op v n = numbers (table (Vecint.x_bytes gen op positions v) 0 n)

abbrev y_first : ℕ → ℕ → ℕ → ℕ → List ℤ
y_first gen op v n = numbers (table (Vecint.y_bytes gen op positions v) 0 n)

-- X, or Y, indexed into register 3, at lane widths w and X and Y offsets; indices of four bits with four_bits added
abbrev indexed_x : ℕ → ℕ → ℕ → ℕ
indexed_x w x y = 2 ^ 53 + 3 * 2 ^ 49 + w * 2 ^ 42 + x * 2 ^ 10 + y

abbrev indexed_y : ℕ → ℕ → ℕ → ℕ
indexed_y w x y = 2 ^ 47 + indexed_x w x y

abbrev four_bits : ℕ
four_bits = 2 ^ 48

-- X has 228, which is 0, 1, 2, 3 in indices of two bits and 4, 14 in indices of four, at byte 228, and Y at byte 218; then 229, which is
-- 1, 1, 2, 3 and 5, 14. Register 3 begins with 192 in X and with 202 in Y.
abbrev pub byte_pins : List Edge
byte_pins =
    -- elements of a byte, and of two
    edge (x_first 1 (indexed_x 10 228 100) 0 8) (numbers (192 ∷ 193 ∷ 194 ∷ 195 ∷ 193 ∷ 193 ∷ 194 ∷ 195 ∷ []))
    ∷ edge (x_first 1 (four_bits + indexed_x 10 228 100) 0 4) (numbers (196 ∷ 206 ∷ 197 ∷ 206 ∷ []))
    ∷ edge (x_first 1 (indexed_x 0 228 100) 0 10) (numbers (192 ∷ 193 ∷ 194 ∷ 195 ∷ 196 ∷ 197 ∷ 198 ∷ 199 ∷ 194 ∷ 195 ∷ []))
    ∷ edge (x_first 1 (four_bits + indexed_x 0 228 100) 0 4) (numbers (200 ∷ 201 ∷ 220 ∷ 221 ∷ []))
    ∷ edge (y_first 1 (indexed_y 10 100 218) 0 5) (numbers (202 ∷ 203 ∷ 204 ∷ 205 ∷ 203 ∷ []))
    -- widths 12 and 13: "at that side's lane width"
    ∷ edge (x_first 1 (indexed_x 12 228 100) 0 4) (numbers (192 ∷ 193 ∷ 194 ∷ 195 ∷ []))
    ∷ edge (y_first 1 (four_bits + indexed_y 12 100 218) 0 4) (numbers (210 ∷ 211 ∷ 230 ∷ 231 ∷ []))
    ∷ edge (x_first 1 (four_bits + indexed_x 13 228 100) 0 4) (numbers (200 ∷ 201 ∷ 220 ∷ 221 ∷ []))
    ∷ edge (y_first 1 (indexed_y 13 100 218) 0 4) (numbers (202 ∷ 203 ∷ 204 ∷ 205 ∷ []))
    -- the other side is loaded as ever
    ∷ edge (y_first 1 (indexed_x 10 228 100) 0 3) (numbers (110 ∷ 111 ∷ 112 ∷ []))
    ∷ edge (x_first 1 (indexed_y 10 100 218) 0 3) (numbers (100 ∷ 101 ∷ 102 ∷ []))
    -- round the ring: byte 511 holds 9, which is 1, 2, 0, 0, and byte 0 holds 0
    ∷ edge (x_first 1 (indexed_x 10 511 0) 0 5) (numbers (193 ∷ 194 ∷ 192 ∷ 192 ∷ 192 ∷ []))
    -- after the advance too: from 500 to 516, which is 4, and byte 4 holds 4: 0, 1, 0, 0
    ∷ edge (x_first 2 (2 ^ 31 + indexed_x 10 500 0) 1 4) (numbers (192 ∷ 193 ∷ 192 ∷ 192 ∷ []))
    -- the zero override comes after
    ∷ edge (x_first 1 (4 * 2 ^ 32 + indexed_x 10 228 100) 0 2) (numbers (0 ∷ 0 ∷ []))
    ∷ edge (y_first 2 (2 ^ 31 + 5 * 2 ^ 32 + indexed_y 10 100 218) 1 2) (numbers (0 ∷ 0 ∷ []))
    -- and then the lane broadcast: Y's lane 3 for lane 40, by enable mode 1
    ∷ edge (Vecint.y_of 1 (2 ^ 38 + 3 * 2 ^ 32 + indexed_y 10 100 218) positions 0 40 ∷ []) (numbers (205 ∷ []))
    ∷ []

-- ---- offsets

-- in broadcast mode m
abbrev x_offset_of : ℕ → ℕ → ℕ → ℕ
x_offset_of op m v = Vecint.x_offset 2 (2 ^ 31 + m * 2 ^ 32 + op) v

abbrev y_offset_of : ℕ → ℕ → ℕ → ℕ
y_offset_of op m v = Vecint.y_offset 2 (2 ^ 31 + m * 2 ^ 32 + op) v

abbrev pub offset_pins : List Pin
offset_pins =
    -- "64 times index bits over lane bits", for vector 3
    pin (x_offset_of (indexed_x 10 100 200) 0 3) (100 + 3 * 16)
    ∷ pin (x_offset_of (four_bits + indexed_x 10 100 200) 0 3) (100 + 3 * 32)
    ∷ pin (x_offset_of (indexed_x 0 100 200) 0 3) (100 + 3 * 8)
    ∷ pin (x_offset_of (four_bits + indexed_x 0 100 200) 0 3) (100 + 3 * 16)
    ∷ pin (y_offset_of (indexed_y 12 100 200) 0 3) (200 + 3 * 8)
    ∷ pin (y_offset_of (four_bits + indexed_y 13 100 200) 0 3) (200 + 3 * 32)
    -- the other side's by 64
    ∷ pin (y_offset_of (indexed_x 10 100 200) 0 3) (200 + 3 * 64)
    ∷ pin (x_offset_of (indexed_y 10 100 200) 0 3) (100 + 3 * 64)
    -- "0 where the broadcast mode repeats the register": 2 and 6 for X, 3 and 7 for Y
    ∷ pin (x_offset_of (indexed_x 10 100 200) 2 3) 100
    ∷ pin (x_offset_of (indexed_x 10 100 200) 6 3) 100
    ∷ pin (x_offset_of (indexed_x 10 100 200) 3 3) (100 + 3 * 16)
    ∷ pin (y_offset_of (indexed_y 10 100 200) 3 3) 200
    ∷ pin (y_offset_of (indexed_y 10 100 200) 7 3) 200
    ∷ pin (y_offset_of (indexed_y 10 100 200) 2 3) (200 + 3 * 16)
    ∷ []

-- ---- for every operand

-- one side's load is indexed where bit 53 is set, and none elsewhere
abbrev pub OneSide : Type 0
OneSide = (op : ℕ) → (Vecint.indexes_x op || Vecint.indexes_y op ≡ bit op 53) × (Vecint.indexes_x op && Vecint.indexes_y op ≡ false)

-- no index leaves the register, at either lane width
abbrev pub InRegister : Type 0
InRegister =
    (op b : ℕ) → (b ≡ 1) ⊎ (b ≡ 2) → (packed : ℕ → ℕ) (i : ℕ)
    → b * Vecint.index_at (Vecint.index_bits op) packed (i / b) + i % b < row_bytes

-- with bit 53 set a step is done, on both generations, unless bits 54..56 or 27..30 say otherwise
abbrev pub IndexedDone : Type 0
IndexedDone =
    (gen op : ℕ) → (gen ≡ 1) ⊎ (gen ≡ 2) → bit op 53 ≡ true → bits op 54 56 ≡ 0 → bits op 27 30 ≡ 0
    → own_answer (call 18 gen op) ≡ Done (bytes_on (effect_of (call 18 gen op)))

-- and it only adds, as mode 0 does
abbrev pub IndexedAdds : Type 0
IndexedAdds = (gen op : ℕ) → bit op 53 ≡ true → Vecint.forces_zero gen op ≡ false → (Vecint.vecint gen op).adds ≡ true

-- two of them on the same rows, each of a side, may be swapped
abbrev pub IndexedSwap : Type 0
IndexedSwap =
    (s : List ℕ) → length s ≡ state_length → CountLeft s
    → Allowed s (0 ∷ []) (call 18 1 (indexed_x 10 228 100) ∷ call 18 1 (four_bits + indexed_y 12 100 218) ∷ [])

-- ---- nothing else moved

-- a load without bit 53: "Offsets advance by 64 each time", and the bytes are those loaded
pub record PlainLoad (gen op : ℕ) (xy : List ℕ) (v i : ℕ) : Type 0 where
  pub x : Vecint.x_bytes gen op xy v i
      ≡ cond (Vecint.overrides gen op 4 4) 0 (loaded xy x_base (bits op 10 18 + cond (Vecint.broadcasts gen op 2 6) 0 (64 * v)) i)
  pub y : Vecint.y_bytes gen op xy v i
      ≡ cond (Vecint.overrides gen op 5 5) 0 (loaded xy y_base (bits op 0 8 + cond (Vecint.broadcasts gen op 3 7) 0 (64 * v)) i)

abbrev pub PlainLoadStays : Type 0
PlainLoadStays = (gen op : ℕ) → bit op 53 ≡ false → (xy : List ℕ) (v i : ℕ) → PlainLoad gen op xy v i

-- without bit 53 the normal operand keeps bit 52, which is the ALU mode's
abbrev pub ModeBitsStay : Type 0
ModeBitsStay = (gen op : ℕ) → bit op 53 ≡ false → bits (normal_operand (call 18 gen op)) 47 52 ≡ bits op 47 52
