-- Widths 12 and 13, whose mask is read at two lane widths: which lanes that enables, that it changes the mask of no other widths, and a swap
-- that it allows.
-- Assumes nothing.
use Rattle.std.specs.Prelude.{◌≡◌, Bool, true, false, cond, not, ◌&&◌, ◌||◌, List, [], ◌∷◌, ◌++◌, map, ℕ, zero, suc, ◌+◌, ◌*◌, ◌^◌, eqb, ℤ, pos, length}
use Rattle.isa.specs.Operand.{bits}
use Rattle.isa.specs.State.{state_length, z_base, lanes_of}
use Rattle.isa.specs.Effect.{Effect, touches, count}
use Rattle.isa.specs.Enable.{vecint_enables}
use Rattle.isa.specs.Vecint as Vecint
use Rattle.isa.specs.Call.{Call, call}
use Rattle.isa.specs.Swap.{CountLeft, Allowed, enables, only_adds}
use Rattle.isa.specs.Places.{vecint_row, vecint_lane}
use Rattle.isa.specs.Edges.{Edge, edge}
use Rattle.isa.specs.Guards.{Pin, pin, own_number}

-- ---- lanes

-- the operand of vecint with these lane widths, enable mode and value, and nothing else
abbrev masking : ℕ → ℕ → ℕ → ℕ
masking widths enable value = widths * 2 ^ 42 + enable * 2 ^ 38 + value * 2 ^ 32

-- on generation 1, lane k comes to an enabled lane of Z
abbrev written : ℕ → ℕ → Bool
written op k = (Vecint.vecint 1 op).on (vecint_row 1 op 0 k) (vecint_lane op k)

-- those below n
abbrev lanes_below : ℕ → ℕ → List ℤ
lanes_below op zero = []
lanes_below op (suc k) = lanes_below op k ++ cond (written op k) (pos k ∷ []) []

abbrev pub lane_pins : List Edge
lane_pins =
    -- "With odd lanes, width 12 now writes 16 lanes, k = 3, 7, 11 and so on."
    edge (lanes_below (masking 12 0 1) 64) (map pos (3 ∷ 7 ∷ 11 ∷ 15 ∷ 19 ∷ 23 ∷ 27 ∷ 31 ∷ 35 ∷ 39 ∷ 43 ∷ 47 ∷ 51 ∷ 55 ∷ 59 ∷ 63 ∷ []))
    -- width 13: even lanes, the first 5, the last 3
    ∷ edge (lanes_below (masking 13 0 2) 64) (map pos (0 ∷ 4 ∷ 8 ∷ 12 ∷ 16 ∷ 20 ∷ 24 ∷ 28 ∷ 32 ∷ 36 ∷ 40 ∷ 44 ∷ 48 ∷ 52 ∷ 56 ∷ 60 ∷ []))
    ∷ edge (lanes_below (masking 13 2 5) 64) (map pos (0 ∷ 1 ∷ 2 ∷ 3 ∷ 4 ∷ []))
    ∷ edge (lanes_below (masking 13 5 3) 64) (map pos (61 ∷ 62 ∷ 63 ∷ []))
    ∷ []

abbrev counted : ℕ → ℕ → ℕ → ℕ
counted widths enable value = count (written (masking widths enable value)) 64

abbrev pub count_pins : List Pin
count_pins =
    -- odd lanes
    pin (counted 12 0 1) 16
    -- each mask has its own lane count: first and last 40, where one side has 32 lanes and the other 64
    ∷ pin (counted 12 2 40) 40
    ∷ pin (counted 13 2 40) 40
    ∷ pin (counted 12 3 40) 40
    ∷ pin (counted 13 3 40) 40
    -- all lanes: enable mode 1, and values 3, 4 and 5 of enable mode 0
    ∷ pin (counted 12 1 7) 64
    ∷ pin (counted 12 0 3) 64
    ∷ pin (counted 13 0 4) 64
    ∷ pin (counted 13 0 5) 64
    ∷ []

-- odd lanes of widths 12, dealt to rows 0 to 3
abbrev pub odd_lanes : Call
odd_lanes = call 18 1 (masking 12 0 1)

-- their bytes: 16 lanes of 4
abbrev pub OddAnswered : Type 0
OddAnswered = own_number odd_lanes ≡ 64

-- ---- nothing else moved

-- the mask by 01's sentence, which 02 replaced: read once, at X's lane width, or Z's in mode 4
unfoldable pub masked_by_x : ℕ → ℕ → Bool
masked_by_x op k =
    cond (Vecint.reduces op) (vecint_enables (lanes_of (Vecint.z_width op)) (Vecint.enable_mode op) (Vecint.enable_value op) k)
    (Vecint.allows (Vecint.widths op) (Vecint.widths op).x (Vecint.enable_mode op) (Vecint.enable_value op) k)

-- with equal widths of X and Y the rule is the old one
abbrev pub EqualWidthsStay : Type 0
EqualWidthsStay = (op : ℕ) → (Vecint.widths op).x ≡ (Vecint.widths op).y → (k : ℕ) → Vecint.masked op k ≡ masked_by_x op k

-- "Only widths 12 and 13 differ", which modes 4, 5 and 6 do not have
abbrev pub mixed : ℕ → Bool
mixed op = not (Vecint.reduces op) && (not (Vecint.saturates op) && (eqb (bits op 42 45) 12 || eqb (bits op 42 45) 13))

abbrev pub OnlyMixedDiffer : Type 0
OnlyMixedDiffer = (op : ℕ) → mixed op ≡ false → (k : ℕ) → Vecint.masked op k ≡ masked_by_x op k

-- ---- a swap

-- beside them, a product stored to row 1, which forgets what was there
abbrev pub stored_product : Call
stored_product = call 14 1 (2 ^ 63 + 2 ^ 27 + 1 * 2 ^ 20)

-- k 1, 5, 9 and so on are the lanes of row 1; the rule enables none of them, so the two may be swapped
abbrev pub SwapAllowed : Type 0
SwapAllowed = (s : List ℕ) → CountLeft s → Allowed s (0 ∷ []) (odd_lanes ∷ stored_product ∷ [])

-- the effect by the old rule
abbrev pub by_x : ℕ → ℕ → Effect
by_x gen op = record {
  width = (Vecint.vecint gen op).width;
  on = λ row lane. Vecint.writes gen op row && (Vecint.several gen op || masked_by_x op (Vecint.k_of op row lane));
  new = (Vecint.vecint gen op).new;
  adds = (Vecint.vecint gen op).adds;
}

-- by the old rule they were not: the first byte of row 1 lies in enabled lanes of both, and the product does not only add
pub record NoSwapByX (s : List ℕ) : Type 0 where
  pub first : touches (by_x odd_lanes.generation odd_lanes.operand) (z_base + 64) ≡ true
  pub second : enables s stored_product (z_base + 64) ≡ true
  pub not-adding : only_adds s stored_product ≡ false

abbrev pub NoSwapBefore : Type 0
NoSwapBefore = (s : List ℕ) → length s ≡ state_length → CountLeft s → NoSwapByX s
