-- What becomes of a term in a lane of Z, in all modes but 4.
-- Assumes nothing.
use Rattle.std.specs.Prelude.{ℕ, ◌+◌, ◌*◌, Bool, false, cond, List, get_or, ℤ, pos, ◌+ℤ◌, neg_ℤ, slice_index_or}
use Rattle.std.proofs.lemmas.List.Edits.{sets}
use Rattle.number.specs.Bytes.{span, byte_at, number, bytes_of}
use Rattle.number.specs.Integers.{signed, wrap, kept, clamp_signed}
use Rattle.isa.specs.Effect.{Effect}
use Rattle.state.specs.Rows.{one_row}
use Rattle.vecint.specs.declared.Alu.{Alu}

-- bytes of a Z lane, and lanes in a row
abbrev pub z_bytes : Bool → ℕ
z_bytes wide = cond wide 4 2

abbrev pub z_lanes : Bool → ℕ
z_lanes wide = cond wide 16 32

-- a term, added to old Z, negated or not, or in its place
unfoldable pub summed : Alu → ℤ → ℤ → ℤ
summed how z t = cond how.keeps (z +ℤ cond how.negates (neg_ℤ t) t) t

-- the same in an i64, clamped to 16 bits
unfoldable pub clamped_sum : Alu → ℤ → ℤ → ℤ
clamped_sum how z t = clamp_signed 2 (cond how.keeps (kept 8 (z +ℤ cond how.negates (kept 8 (neg_ℤ t)) t)) t)

-- 16-bit lanes may be clamped
unfoldable pub accumulated : Bool → Alu → ℤ → ℤ → ℤ
accumulated wide how z t = cond wide (summed how z t) (cond how.clamps (clamped_sum how z t) (summed how z t))

-- a state with the lane at a position so: the old number where it is off
abbrev pub lane_stored : Bool → Alu → List ℕ → ℕ → ℤ → Bool → List ℕ
lane_stored wide how s at t on =
    let z : ℕ = number (z_bytes wide) (byte_at s) at in
    sets s at (bytes_of (z_bytes wide) (cond on (wrap (span (z_bytes wide)) (accumulated wide how (signed (z_bytes wide) z) t)) z))

-- the number that lane k receives
abbrev pub accumulate : Bool → Alu → List ℤ → ℕ → ℕ → ℕ
accumulate wide how terms k z = wrap (span (z_bytes wide)) (accumulated wide how (signed (z_bytes wide) z) (slice_index_or terms k (pos 0)))

-- a row, whose lane l is lane l c + q of the vector
abbrev pub row_of : Bool → ℕ → ℕ → ℕ → List ℤ → List Bool → Alu → Effect
row_of wide row q c terms on how = one_row (z_bytes wide) row (λ l. get_or on (l * c + q) false) (λ l. accumulate wide how terms (l * c + q))
