-- What ALU mode 4 makes of a lane of Z: isa's `Vecint.reduced`, by the fields that the code has.
-- Assumes nothing.
use Rattle.std.specs.Prelude.{Bool, false, cond, List, ℕ, ◌-◌, ◌/◌, ◌%◌, eqb, ℤ, pos, negsuc, ◌+ℤ◌, get_or, Option, Some, None}
use Rattle.std.proofs.lemmas.List.Edits.{sets}
use Rattle.number.specs.Bytes.{span, byte_at, number, bytes_of}
use Rattle.number.specs.Integers.{read, wrap, ◌≫◌, half_unit, clamp_signed, clamp_unsigned}
use Rattle.isa.specs.Effect.{Effect}
use Rattle.state.specs.Rows.{one_row}
use Rattle.reduction.specs.declared.Range.{Range}
use Rattle.reduction.specs.declared.Reduce.{Reduce}

-- widths are 1, 2 or 4 bytes; another number is taken as 4
abbrev pub width_in : ℕ → ℕ
width_in b = cond (eqb b 1) 1 (cond (eqb b 2) 2 4)

-- clamped to a range, if there is one
abbrev pub clamp_by : Option Range → ℤ → ℤ
clamp_by None v = v
clamp_by (Some to) v = cond to.below (clamp_signed (width_in to.width) v) (clamp_unsigned (width_in to.width) v)

-- the value of a lane that is read as old: shifted, rounded or not, and clamped or not
unfoldable pub value_of : Reduce → ℤ → ℤ
value_of how old =
    let v : ℤ = (old +ℤ cond how.rounds (half_unit (how.shift % 32)) (pos 0)) ≫ (how.shift % 32) in
    clamp_by how.clamp v

-- the number that a lane of b bytes receives: 0 where the output is forced to 0
abbrev pub new_of : ℕ → Reduce → ℤ → ℕ
new_of b how old = wrap (span b) (cond how.clears (pos 0) (value_of how old))

unfoldable pub reduce_to : ℕ → Reduce → ℕ → ℕ
reduce_to b how z = new_of b how (read how.sign b z)

-- ---- as the code has it

-- what is added before the shift, and the shifted sum
abbrev pub added_to : Reduce → ℤ
added_to how = cond how.rounds (half_unit (how.shift % 32)) (pos 0)

abbrev pub shifted_by : Reduce → ℤ → ℤ
shifted_by how old = (old +ℤ added_to how) ≫ (how.shift % 32)

-- the ends of the range that is clamped to
abbrev pub low_end : Bool → ℕ → ℤ
low_end below b = cond below (negsuc (span (width_in b) / 2 - 1)) (pos 0)

abbrev pub highest : Bool → ℕ → ℕ
highest below b = cond below (span (width_in b) / 2) (span (width_in b)) - 1

abbrev pub high_end : Bool → ℕ → ℤ
high_end below b = pos (highest below b)

-- a state with the lane of b bytes at a position so: the old number where it is off
abbrev pub lane_stored : ℕ → Reduce → List ℕ → ℕ → Bool → List ℕ
lane_stored b how s at on =
    let z : ℕ = number b (byte_at s) at in
    sets s at (bytes_of b (cond on (reduce_to b how z) z))

-- the effect on a row of lanes of b bytes
abbrev pub row_reduced : ℕ → ℕ → List Bool → Reduce → Effect
row_reduced b row on how = one_row b row (λ l. get_or on l false) (λ l. reduce_to b how)
