-- The lanes of a vector and their places lie in lists of 64, and a row's lanes in its bytes.
-- Assumes nothing.
use Rattle.std.proofs.Common.{◌≡◌, ℕ, ◌+◌, ◌*◌, ◌%◌, ◌<◌, ◌≤◌, Bool, true, false, refl, div-le_self, arith}
use lib.Arith.{digits_lt}
use Rattle.number.proofs.Tests.{two}
use Rattle.isa.specs.Vecint as Vecint
use Rattle.operand.proofs.Widths.{lanes-dealt}
use Rattle.operand.proofs.Lanes.{lanes-reducing}
use Rattle.vecint.specs.Accumulation.{z_bytes, z_lanes}
use Rattle.vecint.specs.Vectors.{vector_lanes}

pub fits : (wide : Bool) → z_lanes wide * z_bytes wide ≡ 64
fits true = refl
fits false = refl

-- lane l of n of the row that has place q of c
pub place_in : (n l q c : ℕ) → l < n → q < c → n * c ≤ 64 → l * c + q < 64
place_in n l q c hl hq h =
    let place : l * c + q < n * c = digits_lt hl hq in
    omega arith

-- where a lane of a row lies
pub lane-at : (row x : ℕ) → row < 64 → 1024 + row % 64 * 64 + x ≡ 1024 + (row * 64 + x)
lane-at row x h = omega arith

-- a vector has at most as many lanes as a mask has places
pub few-lanes : (op : ℕ) → vector_lanes op ≤ 64
few-lanes op =
    two (Vecint.reduces op) (vector_lanes op ≤ 64)
    (λ t. omega (arith, lanes-reducing op t, div-le_self 64 (Vecint.z_width op)))
    (λ f. omega (arith, lanes-dealt op f, div-le_self 64 (Vecint.narrower (Vecint.widths op))))
