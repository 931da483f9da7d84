-- Indexed loads. That the normal operand keeps bit 52 without them is in NormalOperand.
-- Assumes nothing.
use mathlib.Core.Path.{◌≡◌, refl, ap, ◌∙◌}
use mathlib.Core.Bool.{Bool, true, false, cond, not, ◌&&◌, ◌||◌}
use mathlib.Core.List.{List, map}
use mathlib.Core.Logic.{◌⊎◌, inl, inr}
use Prim.Native.Nat.{ℕ, ◌+◌, ◌*◌, ◌/◌, ◌%◌, ◌^◌, ◌<◌}
use native.Mathlib.Nat.{mod-lt}
use native.Mathlib.Omega.{arith}
use lib.Dec.{eqb}
use lib.Pow.{pow_pos}
use Rattle.number.specs.Bytes.{number, table}
use Rattle.isa.specs.declared.Refusal.TheVariants.{Generation}
use Rattle.isa.specs.declared.Answer.{Answer}
use Rattle.isa.specs.declared.Answer.TheVariants.{Done, Refused}
use Rattle.isa.specs.Operand.{bits, bit}
use Rattle.isa.specs.State.{x_base, y_base, loaded}
use Rattle.isa.specs.Effect.{bytes_on}
use Rattle.isa.specs.Vecint as Vecint
use Rattle.isa.specs.Call.{call, effect_of}
use Rattle.isa.specs.Answers.{later_mode, vecint_rows, first_of, own_answer}
use Rattle.isa.specs.Edges.{Edge}
use Rattle.isa.specs.Guards.{Pin}
use Rattle.isa.specs.Indexed.{byte_pins, offset_pins, OneSide, InRegister, IndexedDone, IndexedAdds, IndexedSwap, PlainLoadStays}
use Rattle.number.proofs.Tests.{pick_true, pick_false}
use Rattle.isa.proofs.Guards.{adding}

-- ---- bytes and offsets

pub bytes-pinned : map (λ (p : Edge). p.gives) byte_pins ≡ map (λ (p : Edge). p.says) byte_pins
unfolding bits number table Vecint.mode Vecint.widths_by Vecint.widths Vecint.overrides Vecint.broadcasts
    Vecint.indexes_x Vecint.indexes_y Vecint.index_bits Vecint.index_at Vecint.picked Vecint.side_byte Vecint.advance
    Vecint.x_offset Vecint.y_offset Vecint.x_bytes Vecint.y_bytes Vecint.y_index Vecint.y_of
bytes-pinned = refl

pub offsets_pinned : map (λ (p : Pin). p.gives) offset_pins ≡ map (λ (p : Pin). p.says) offset_pins
unfolding bits Vecint.mode Vecint.widths_by Vecint.widths Vecint.broadcasts
    Vecint.indexes_x Vecint.indexes_y Vecint.index_bits Vecint.advance Vecint.x_offset Vecint.y_offset
offsets_pinned = refl

-- ---- for every operand

pub one_side : OneSide
unfolding Vecint.indexes_x Vecint.indexes_y
one_side op = go (bit op 53) (bit op 47)
  where
    go : (i y : Bool) → ((i && not y) || (i && y) ≡ i) × ((i && not y) && (i && y) ≡ false)
    go true true = (refl, refl)
    go true false = (refl, refl)
    go false y = (refl, refl)

-- an index of n bits, n at most 4, is below 16
pub index_lt : (op : ℕ) (packed : ℕ → ℕ) (k : ℕ) → Vecint.index_at (Vecint.index_bits op) packed k < 16
unfolding Vecint.index_at Vecint.index_bits
index_lt op packed k = go (bit op 48)
  where
    go : (four : Bool) → packed (k * cond four 4 2 / 8) / 2 ^ (k * cond four 4 2 % 8) % 2 ^ cond four 4 2 < 16
    go true = mod-lt (packed (k * 4 / 8) / 2 ^ (k * 4 % 8)) (pow_pos 4)
    go false = omega (arith, mod-lt (packed (k * 2 / 8) / 2 ^ (k * 2 % 8)) (pow_pos 2))

pub in_register : InRegister
in_register op b (inl e) packed i = rw e (omega (arith, index_lt op packed (i / 1)))
in_register op b (inr e) packed i = rw e (omega (arith, index_lt op packed (i / 2)))

mode-0 : (op : ℕ) → bit op 53 ≡ true → Vecint.mode op ≡ 0
unfolding Vecint.mode
mode-0 op e = pick_true _ _ e

pub indexed_done : IndexedDone
unfolding own_answer
indexed_done gen op known e reserved shuffles = go known
  where
    m : Vecint.mode op ≡ 0
    m = mode-0 op e

    done : Answer
    done = Done (bytes_on (effect_of (call 18 gen op)))

    no_row : first_of (vecint_rows gen op) done ≡ done
    no_row =
        pick_false _ _ (ap (λ (n : ℕ). not (eqb n 0)) reserved)
        ∙ pick_false _ _ (ap Vecint.reserved_mode m)
        ∙ pick_false _ _ (ap (later_mode gen) m)
        ∙ pick_false _ _ (λ t. not (eqb (m t) 4) && not (eqb (shuffles t) 0))

    above : ℕ → Answer
    above g = cond (not (eqb g 1 || eqb g 2)) (Refused Generation) (first_of (vecint_rows gen op) done)

    go : (gen ≡ 1) ⊎ (gen ≡ 2) → above gen ≡ done
    go (inl g) = ap above g ∙ no_row
    go (inr g) = ap above g ∙ no_row

pub indexed_adds : IndexedAdds
indexed_adds gen op e kept = λ t. Vecint.adding_mode (mode-0 op e t) && not (kept t)

pub indexed_swap : IndexedSwap
unfolding bits own_answer Vecint.mode Vecint.widths_by Vecint.widths Vecint.z_width Vecint.overrides
indexed_swap s size left = ((left, inr (adding s _ _ size (omega (arith, left size)) refl refl refl)), tt)

-- ---- nothing else moved

-- the load of a side that isn't indexed
module _ {indexed : Bool} (e : indexed ≡ false) (n r b : ℕ) (xy : List ℕ) (base from : ℕ) (repeats : Bool) (v i : ℕ) where
  plain : Vecint.side_byte indexed n r b xy base (from + cond repeats 0 (Vecint.advance indexed n b * v)) i
      ≡ loaded xy base (from + cond repeats 0 (64 * v)) i
  unfolding Vecint.side_byte Vecint.advance
  plain = λ t. Vecint.side_byte (e t) n r b xy base (from + cond repeats 0 (Vecint.advance (e t) n b * v)) i

pub plain_load_stays : PlainLoadStays
unfolding Vecint.x_bytes Vecint.y_bytes Vecint.x_offset Vecint.y_offset Vecint.indexes_x Vecint.indexes_y
plain_load_stays gen op e xy v i =
    let w : Vecint.Widths = Vecint.widths op in
    let n : ℕ = Vecint.index_bits op in
    let r : ℕ = Vecint.register op in
    let x : Vecint.indexes_x op ≡ false = ap (λ (i : Bool). i && not (bit op 47)) e in
    let y : Vecint.indexes_y op ≡ false = ap (λ (i : Bool). i && bit op 47) e in
    record {
      x = ap (cond (Vecint.overrides gen op 4 4) 0) (plain x n r w.x xy x_base (bits op 10 18) (Vecint.broadcasts gen op 2 6) v i);
      y = ap (cond (Vecint.overrides gen op 5 5) 0) (plain y n r w.y xy y_base (bits op 0 8) (Vecint.broadcasts gen op 3 7) v i);
    }
