-- Floats at the edges: what a lane receives in each mode, with ties, halves of the largest, subnormals, both zeros, infinities and NaNs of both
-- signs; what reaches a lane; and two sums that no swap exchanges.
-- Assumes nothing.
use Rattle.std.specs.Prelude.{◌≡◌, List, [], ◌∷◌, ◌++◌, ℕ, zero, suc, ◌+◌, ◌*◌, ◌/◌, ◌%◌, ◌^◌, pos, length}
use Rattle.std.specs.Float.{binary32, binary64}
use Rattle.number.specs.Bytes.{number}
use Rattle.isa.specs.Operand.{bit}
use Rattle.isa.specs.State.{state_length, x_base, y_base, z_base, rows, start}
use Rattle.isa.specs.Vecfp as Vecfp
use Rattle.isa.specs.Fms64 as Fms64
use Rattle.isa.specs.Call.{Call, call, effect_of}
use Rattle.isa.specs.Swap.{Allowed}
use Rattle.isa.specs.Edges.{Byte, byte, registers_with, byte_after, landed, rows_on, Edge, edge}
use Rattle.isa.specs.Guards.{Pin, pin, starting, OrderMatters}

-- ---- a lane in each mode, by patterns

-- vecfp in mode m: x, y and z, and what the lane receives
abbrev single : ℕ → ℕ → ℕ → ℕ → ℕ → Pin
single m x y z says = pin (Vecfp.alu binary32 m x y z) says

abbrev double : ℕ → ℕ → ℕ → ℕ → ℕ → Pin
double m x y z says = pin (Vecfp.alu binary64 m x y z) says

-- fms64, by bits 29, 28 and 27 as a number
abbrev less : ℕ → ℕ → ℕ → ℕ → ℕ → Pin
less skips x y z says = pin (Fms64.result (bit skips 2) (bit skips 1) (bit skips 0) x y z) says

abbrev pub lane_pins : List Pin
lane_pins =
    -- z + x: 2^24 + 1 is a tie and goes to the even one, down; 2^24 + 2 + 1, up; 1 + 2^-24 down, and just above it up
    single 11 0x3f80_0000 9 0x4b80_0000 0x4b80_0000
    ∷ single 11 0x3f80_0000 9 0x4b80_0001 0x4b80_0002
    ∷ single 11 0x3380_0000 9 0x3f80_0000 0x3f80_0000
    ∷ single 11 0x3380_0001 9 0x3f80_0000 0x3f80_0001
    -- halves of the largest make it; half a unit more overflows, and less does not
    ∷ single 11 0x7eff_ffff 9 0x7eff_ffff 0x7f7f_ffff
    ∷ single 11 0x7300_0000 9 0x7f7f_ffff 0x7f80_0000
    ∷ single 11 0x72ff_ffff 9 0x7f7f_ffff 0x7f7f_ffff
    ∷ single 11 0xf300_0000 9 0xff7f_ffff 0xff80_0000
    -- z + y: subnormals, one of them up to the least normal and back
    ∷ single 12 9 1 1 2
    ∷ single 12 9 1 0x007f_ffff 0x0080_0000
    ∷ single 12 9 0x8000_0001 0x0080_0000 0x007f_ffff
    -- zeros: -0 and -0, -0 and +0, 1 and -1
    ∷ single 12 9 0x8000_0000 0x8000_0000 0x8000_0000
    ∷ single 12 9 0 0x8000_0000 0
    ∷ single 12 9 0xbf80_0000 0x3f80_0000 0
    -- infinities; NaNs, quiet and signalling, of both signs
    ∷ single 12 9 0xff80_0000 0x7f80_0000 0x7fc0_0000
    ∷ single 12 9 0x3f80_0000 0xff80_0000 0xff80_0000
    ∷ single 12 9 0xffc0_0001 0 0x7fc0_0000
    ∷ single 12 9 0 0x7f80_0001 0x7fc0_0000
    -- x * y: the least normal and the least halved, three of the least halved, minus the least halved
    ∷ single 10 0x0080_0000 0x3f00_0000 9 0x0040_0000
    ∷ single 10 1 0x3f00_0000 9 0
    ∷ single 10 3 0x3f00_0000 9 2
    ∷ single 10 0x8000_0001 0x3f00_0000 9 0x8000_0000
    -- the largest doubled, with both signs; the largest and two halved; a tie: 1.5 times 1 + 2^-23
    ∷ single 10 0x7f7f_ffff 0x4000_0000 9 0x7f80_0000
    ∷ single 10 0x7f7f_ffff 0xc000_0000 9 0xff80_0000
    ∷ single 10 0x7f7f_ffff 0x3f00_0000 9 0x7eff_ffff
    ∷ single 10 0x3fc0_0000 0x3f80_0001 9 0x3fc0_0002
    -- infinity times 0, and times -1; a NaN; -0 times 1
    ∷ single 10 0x7f80_0000 0x8000_0000 9 0x7fc0_0000
    ∷ single 10 0x7f80_0000 0xbf80_0000 9 0xff80_0000
    ∷ single 10 0xff80_0001 0x3f80_0000 9 0x7fc0_0000
    ∷ single 10 0x8000_0000 0x3f80_0000 9 0x8000_0000
    -- x <= 0 ? 0 : y, at NaNs of both signs, zeros, the least, minus the least, the infinities; y is a NaN, whose bits stay
    ∷ single 4 0x7fc0_0000 0xffa0_1234 9 0xffa0_1234
    ∷ single 4 0xff80_0001 0xffa0_1234 9 0xffa0_1234
    ∷ single 4 0 0xffa0_1234 9 0
    ∷ single 4 0x8000_0000 0xffa0_1234 9 0
    ∷ single 4 1 0xffa0_1234 9 0xffa0_1234
    ∷ single 4 0x8000_0001 0xffa0_1234 9 0
    ∷ single 4 0x7f80_0000 0x8000_0000 9 0x8000_0000
    ∷ single 4 0xff80_0000 0xffa0_1234 9 0
    -- doubles: 0.1 + 0.2, a tie at 2^53, the largest doubled, the least doubled, infinities, a NaN
    ∷ double 11 0x3fc9_9999_9999_999a 9 0x3fb9_9999_9999_999a 0x3fd3_3333_3333_3334
    ∷ double 11 0x3ff0_0000_0000_0000 9 0x4340_0000_0000_0001 0x4340_0000_0000_0002
    ∷ double 12 9 0x7fef_ffff_ffff_ffff 0x7fef_ffff_ffff_ffff 0x7ff0_0000_0000_0000
    ∷ double 12 9 1 1 2
    ∷ double 12 9 0xfff0_0000_0000_0000 0x7ff0_0000_0000_0000 0x7ff8_0000_0000_0000
    ∷ double 12 9 0x8000_0000_0000_0000 0x8000_0000_0000_0000 0x8000_0000_0000_0000
    ∷ double 12 9 0 0xfff0_0000_0000_0001 0x7ff8_0000_0000_0000
    -- 0.1 * 0.1, the least halved, three of the least halved, 0 times infinity; a choice at -0 and at a NaN
    ∷ double 10 0x3fb9_9999_9999_999a 0x3fb9_9999_9999_999a 9 0x3f84_7ae1_47ae_147c
    ∷ double 10 1 0x3fe0_0000_0000_0000 9 0
    ∷ double 10 3 0x3fe0_0000_0000_0000 9 2
    ∷ double 10 0 0xfff0_0000_0000_0000 9 0x7ff8_0000_0000_0000
    ∷ double 4 0x8000_0000_0000_0000 7 9 0
    ∷ double 4 0xfff8_0000_0000_0000 0x7ff0_0000_0000_0001 9 0x7ff0_0000_0000_0001
    -- z - x: 1 - 3; -0 - +0; 0 - 0; the tie 1 - 2^-54; minus the largest less the largest; infinity less itself; a NaN
    ∷ less 2 0x4008_0000_0000_0000 9 0x3ff0_0000_0000_0000 0xc000_0000_0000_0000
    ∷ less 2 0 9 0x8000_0000_0000_0000 0x8000_0000_0000_0000
    ∷ less 2 0 9 0 0
    ∷ less 2 0x3c90_0000_0000_0000 9 0x3ff0_0000_0000_0000 0x3ff0_0000_0000_0000
    ∷ less 2 0x7fef_ffff_ffff_ffff 9 0xffef_ffff_ffff_ffff 0xfff0_0000_0000_0000
    ∷ less 2 0x7ff0_0000_0000_0000 9 0x7ff0_0000_0000_0000 0x7ff8_0000_0000_0000
    ∷ less 2 0xfff0_0000_0000_0001 9 0 0x7ff8_0000_0000_0000
    -- z - y: 1 - 3; subnormals
    ∷ less 4 9 0x4008_0000_0000_0000 0x3ff0_0000_0000_0000 0xc000_0000_0000_0000
    ∷ less 4 9 1 0x0010_0000_0000_0000 0x000f_ffff_ffff_ffff
    -- -x and -y: the sign bit, of a NaN and of 0 too
    ∷ less 3 0x7ff4_0000_0000_0001 9 9 0xfff4_0000_0000_0001
    ∷ less 3 0 9 9 0x8000_0000_0000_0000
    ∷ less 5 9 0xfff8_0000_0000_0002 9 0x7ff8_0000_0000_0002
    ∷ less 5 9 0x8000_0000_0000_0000 9 0
    -- z, with every bit of a signalling NaN; -0
    ∷ less 6 9 9 0xfff0_0000_0000_0001 0xfff0_0000_0000_0001
    ∷ less 7 9 9 9 0x8000_0000_0000_0000
    ∷ []

-- ---- what reaches a lane, by whole steps

-- b bytes of n from a position on
abbrev placed : ℕ → ℕ → ℕ → List Byte
placed zero at n = []
placed (suc b) at n = byte at (n % 256) ∷ placed b (at + 1) (n / 256)

-- a lane of Z after a step, as its pattern
abbrev pattern_after : Call → List Byte → ℕ → ℕ → ℕ
pattern_after c bytes row lane =
    let b : ℕ = (effect_of c).width in
    number b (byte_after c (registers_with bytes)) (start b row lane)

-- vecfp on M2, in mode m: at width number 4 and at 7
abbrev singles : ℕ → ℕ → Call
singles m op = call 19 2 (m * 2 ^ 47 + 4 * 2 ^ 42 + op)

abbrev doubles : ℕ → ℕ → Call
doubles m op = call 19 2 (m * 2 ^ 47 + 7 * 2 ^ 42 + op)

abbrev pub step_pins : List Pin
step_pins =
    -- "a vecfp broadcast lane is taken modulo the lane count": value 17 is lane 1 of singles and of doubles, and 9 is lane 1 of doubles
    pin (pattern_after (singles 12 (2 ^ 38 + 17 * 2 ^ 32)) (placed 4 (y_base + 4) 0x3f80_0000) 0 5) 0x3f80_0000
    ∷ pin (pattern_after (doubles 12 (2 ^ 38 + 17 * 2 ^ 32)) (placed 8 (y_base + 8) 0x3ff0_0000_0000_0000) 0 5) 0x3ff0_0000_0000_0000
    ∷ pin (pattern_after (doubles 12 (2 ^ 38 + 9 * 2 ^ 32)) (placed 8 (y_base + 8) 0x3ff0_0000_0000_0000) 0 5) 0x3ff0_0000_0000_0000
    -- X read as 0, and Y: 0 times infinity, and -0 + 0
    ∷ pin (pattern_after (singles 10 (4 * 2 ^ 32)) (placed 4 x_base 0x3f80_0000 ++ placed 4 y_base 0x7f80_0000) 0 0) 0x7fc0_0000
    ∷ pin (pattern_after (singles 12 (5 * 2 ^ 32)) (placed 4 y_base 0x3f80_0000 ++ placed 4 z_base 0x8000_0000) 0 0) 0
    -- the output forced to +0, by the value and by broadcast mode 1
    ∷ pin (pattern_after (doubles 11 (3 * 2 ^ 32)) (placed 8 z_base 0xbff0_0000_0000_0000) 0 0) 0
    ∷ pin (pattern_after (doubles 11 (2 ^ 31 + 2 ^ 32)) (placed 8 z_base 0xbff0_0000_0000_0000) 0 0) 0
    -- two vectors, the second with X from the offset 64 on, or with lane 0 of the same X
    ∷ pin (pattern_after (singles 11 (2 ^ 31)) (placed 4 (x_base + 64 + 4 * 3) 0x4040_0000) 32 3) 0x4040_0000
    ∷ pin (pattern_after (singles 11 (2 ^ 31 + 6 * 2 ^ 32)) (placed 4 x_base 0x4040_0000) 32 3) 0x4040_0000
    -- odd lanes alone
    ∷ pin (pattern_after (singles 11 (2 ^ 32)) (placed 4 x_base 0x4040_0000) 0 0) 0
    -- fms64, a vector: z - y from row 5, in lane 2
    ∷ pin (pattern_after (call 11 1 (2 ^ 63 + 2 ^ 29 + 5 * 2 ^ 20)) (placed 8 (y_base + 16) 0x4008_0000_0000_0000) 5 2) 0xc008_0000_0000_0000
    ∷ []

abbrev pub place_pins : List Edge
place_pins =
    -- fms64, a matrix, lanes i 3 and j 5 alone, Z row 12: row 44, lane 3; -y has a low byte that is not 0
    edge (landed (call 11 1 (2 ^ 46 + 3 * 2 ^ 41 + 2 ^ 37 + 5 * 2 ^ 32 + 2 ^ 29 + 2 ^ 27 + 12 * 2 ^ 20)) (registers_with (byte (y_base + 8 * 5) 1 ∷ [])))
    (pos 44 ∷ pos 3 ∷ [])
    -- its rows with Z row 13; those of four vectors of vecfp with Z row 37, and of one on M1
    ∷ edge (rows_on (effect_of (call 11 1 (2 ^ 28 + 13 * 2 ^ 20))) rows) (pos 5 ∷ pos 13 ∷ pos 21 ∷ pos 29 ∷ pos 37 ∷ pos 45 ∷ pos 53 ∷ pos 61 ∷ [])
    ∷ edge (rows_on (effect_of (singles 10 (2 ^ 31 + 37 * 2 ^ 20))) rows) (pos 5 ∷ pos 21 ∷ pos 37 ∷ pos 53 ∷ [])
    ∷ edge (rows_on (effect_of (call 19 1 (4 * 2 ^ 47 + 4 * 2 ^ 42 + 2 ^ 31 + 37 * 2 ^ 20))) rows) (pos 37 ∷ [])
    ∷ []

-- ---- "no float step counts as adding"

-- z + x and z + y, to lane 0 of row 0 of singles
abbrev pub sum_x : Call
sum_x = singles 11 0

abbrev pub sum_y : Call
sum_y = singles 12 0

-- 2^24 + 1 - 1: each sum is rounded, and the end depends on the order
abbrev pub SumsMatter : Type 0
SumsMatter = OrderMatters sum_x sum_y (starting (0 ∷ 0 ∷ 128 ∷ 63 ∷ []) (0 ∷ 0 ∷ 128 ∷ 191 ∷ []) (0 ∷ 0 ∷ 128 ∷ 75 ∷ []))

-- so no state allows their swap
abbrev pub SumsStay : Type 0
SumsStay = (s : List ℕ) → length s ≡ state_length → Allowed s (0 ∷ []) (sum_x ∷ sum_y ∷ []) → ⊥
