-- The bytes of a side: those loaded, those that indices name, and 0.
-- Assumes nothing.
use mathlib.Core.Path.{◌≡◌, refl, sym, ap, ◌∙◌}
use mathlib.Core.Bool.{Bool, true, false, cond}
use mathlib.Core.List.{List}
use mathlib.Core.Logic.{◌⊎◌, inl, inr}
use Prim.Native.Nat.{ℕ, ◌+◌, ◌*◌, ◌/◌, ◌%◌, ◌^◌, ◌≤◌, ◌<◌}
use native.Mathlib.Nat.{zero-add, mod-eq_of_lt}
use native.Mathlib.Omega.{arith}
use lib.Dec.{eqb}
use lib.ListN.{take}
use lib.Seq.{get_or-take}
use Rattle.number.specs.Bytes.{byte_at, table}
use Rattle.number.proofs.Bytes.{get_d-table, table_same}
use Rattle.number.proofs.Tests.{pick_true, pick_false}
use Rattle.isa.specs.Operand.{bit}
use Rattle.isa.specs.State.{loaded, register_byte}
use Rattle.isa.specs.Vecint as Vecint
use Rattle.isa.proofs.Indexed.{in_register}
use Rattle.operand.proofs.Fields.{bits-lt}
use Rattle.operand.proofs.Widths.{x_cases, y_cases}
use Rattle.sides.specs.Sides.{lane_bytes}
use Rattle.loads.specs.Loads.{advance_by, base_of, indexes_of, width_of, first_of, repeats_of, zero_of, offset_of, side_of, bytes_of}

in_table : (f : ℕ → ℕ) (i : ℕ) → i < 64 → byte_at (table f 0 64) i ≡ f i
in_table f i h = get_d-table f 0 0 64 i h ∙ ap f (zero-add i)

-- ---- two arrays and what they were loaded from

-- the indices of 64 bytes lie in them
index_same : (four : Bool) (f g : ℕ → ℕ) → ((i : ℕ) → i < 64 → f i ≡ g i) → (k : ℕ) → k < 64
    → Vecint.index_at (Vecint.index_width four) f k ≡ Vecint.index_at (Vecint.index_width four) g k
unfolding Vecint.index_at
index_same true f g same k h = ap (λ (x : ℕ). x / 2 ^ (k * 4 % 8) % 2 ^ 4) (same (k * 4 / 8) (omega arith))
index_same false f g same k h = ap (λ (x : ℕ). x / 2 ^ (k * 2 % 8) % 2 ^ 2) (same (k * 2 / 8) (omega arith))

lane_of : {b : ℕ} → (b ≡ 1) ⊎ (b ≡ 2) → (i : ℕ) → i < 64 → i / b < 64
lane_of (inl e) i h = rw e (omega arith)
lane_of (inr e) i h = rw e (omega arith)

-- two packings and two registers that agree on 64 bytes give the same elements
picked_same : (op b : ℕ) → (b ≡ 1) ⊎ (b ≡ 2) → (f g named other : ℕ → ℕ)
    → ((i : ℕ) → i < 64 → f i ≡ g i) → ((i : ℕ) → i < 64 → named i ≡ other i) → (i : ℕ) → i < 64
    → Vecint.picked b (Vecint.index_bits op) f named i ≡ Vecint.picked b (Vecint.index_bits op) g other i
unfolding Vecint.picked Vecint.index_bits
picked_same op b width f g named other packing register i h =
    register (b * Vecint.index_at (Vecint.index_bits op) f (i / b) + i % b) (in_register op b width f i)
    ∙ ap (λ (x : ℕ). other (b * x + i % b)) (index_same (bit op 48) f g packing (i / b) (lane_of width i h))

-- ---- a side

pub width-cases : (y : Bool) (op : ℕ) → (width_of y op ≡ 1) ⊎ (width_of y op ≡ 2)
width-cases true op = y_cases op
width-cases false op = x_cases op

base_le : (y : Bool) → base_of y ≤ 512
base_le true = omega arith
base_le false = omega arith

-- what the code has for the lane width
lane-width : {b : ℕ} → (b ≡ 1) ⊎ (b ≡ 2) → lane_bytes (eqb b 2) ≡ b
lane-width (inl e) = (λ t. lane_bytes (eqb (e t) 2)) ∙ sym e
lane-width (inr e) = (λ t. lane_bytes (eqb (e t) 2)) ∙ sym e

-- a register's bytes do not reach round the ring
of_register : (op : ℕ) (s : List ℕ) (base i : ℕ) → i < 64 → loaded s base (64 * Vecint.register op) i ≡ register_byte s base (Vecint.register op) i
of_register op s base i h = ap (λ (x : ℕ). byte_at s (base + x)) (mod-eq_of_lt (omega (arith, bits-lt op 49 51)))

module _ (y : Bool) (gen op : ℕ) (s : List ℕ) (v : ℕ) {from : ℕ} {out : List ℕ} where
  pub when-plain : from ≡ first_of y op + cond (repeats_of y gen op) 0 (64 * v) → out ≡ table (loaded s (base_of y) from) 0 64
      → out ≡ table (side_of y gen op s v false) 0 64
  unfolding Vecint.advance Vecint.side_byte
  when-plain ea eo = eo ∙ (λ t. table (loaded s (base_of y) (ea t)) 0 64)

  pub when-indexed : {wide four : Bool} {step r : ℕ} {packed named : List ℕ} → wide ≡ eqb (width_of y op) 2 → four ≡ bit op 48
      → step ≡ advance_by four wide → from ≡ first_of y op + cond (repeats_of y gen op) 0 (step * v)
      → packed ≡ table (loaded s (base_of y) from) 0 64 → r ≡ Vecint.register op → named ≡ table (loaded s (base_of y) (64 * r)) 0 64
      → out ≡ table (Vecint.picked (lane_bytes wide) (Vecint.index_width four) (byte_at packed) (byte_at named)) 0 64
      → out ≡ table (side_of y gen op s v true) 0 64
  unfolding Vecint.advance Vecint.side_byte Vecint.index_bits
  when-indexed ew ef es ea ep er en eo =
      let b = ap lane_bytes ew ∙ lane-width (width-cases y op) in
      let at = ea ∙ (λ t. first_of y op + cond (repeats_of y gen op) 0 ((es ∙ (λ t. Vecint.advance true (Vecint.index_width (ef t)) (b t))) t * v)) in
      let ring : ℕ → ℕ = loaded s (base_of y) (offset_of y gen op v true) in
      let register : ℕ → ℕ = loaded s (base_of y) (64 * Vecint.register op) in
      let ep' = ep ∙ (λ t. table (loaded s (base_of y) (at t)) 0 64) in
      let en' = en ∙ ap (λ (x : ℕ). table (loaded s (base_of y) (64 * x)) 0 64) er in
      eo ∙ (λ t. table (Vecint.picked (b t) (Vecint.index_width (ef t)) (byte_at (ep' t)) (byte_at (en' t))) 0 64)
      ∙ table_same _ _ 64
      (picked_same op (width_of y op) (width-cases y op) (byte_at (table ring 0 64)) ring (byte_at (table register 0 64))
      (register_byte s (base_of y) (Vecint.register op)) (in_table ring) (λ i h. in_table register i h ∙ of_register op s (base_of y) i h))

-- X and Y lie before byte 1,024 of the state
module _ (y : Bool) (gen op : ℕ) (s : List ℕ) (v : ℕ) where
  in-ring : (offset i : ℕ) → loaded s (base_of y) offset i ≡ loaded (take 1024 s) (base_of y) offset i
  in-ring offset i = sym (get_or-take 1024 s (base_of y + (offset + i) % 512) 0 (omega (arith, base_le y)))

  in_registers : (i : ℕ) → i < 64
      → register_byte s (base_of y) (Vecint.register op) i ≡ register_byte (take 1024 s) (base_of y) (Vecint.register op) i
  in_registers i l = sym (get_or-take 1024 s (base_of y + (64 * Vecint.register op + i)) 0 (omega (arith, base_le y, bits-lt op 49 51)))

  of-xy : (indexed : Bool) (i : ℕ) → i < 64 → side_of y gen op s v indexed i ≡ side_of y gen op (take 1024 s) v indexed i
  unfolding Vecint.side_byte
  of-xy true i l =
      let from : ℕ = offset_of y gen op v true in
      picked_same op (width_of y op) (width-cases y op) (loaded s (base_of y) from) (loaded (take 1024 s) (base_of y) from)
      (register_byte s (base_of y) (Vecint.register op)) (register_byte (take 1024 s) (base_of y) (Vecint.register op))
      (λ i l. in-ring from i) in_registers i l
  of-xy false i l = in-ring (offset_of y gen op v false) i

-- ---- 0 where the mode leaves a side out, or an override

both : (skip zero : Bool) (x : ℕ) → cond (cond skip true zero) 0 x ≡ cond skip 0 (cond zero 0 x)
both true zero x = refl
both false zero x = refl

-- what isa says of the side
as_said : (y : Bool) (gen op : ℕ) (xy : List ℕ) (v i : ℕ)
    → cond (zero_of y gen op) 0 (side_of y gen op xy v (indexes_of y op) i) ≡ cond y (Vecint.y_bytes gen op xy v i) (Vecint.x_bytes gen op xy v i)
unfolding Vecint.x_bytes Vecint.y_bytes Vecint.x_offset Vecint.y_offset
as_said true gen op xy v i = refl
as_said false gen op xy v i = refl

module _ (y : Bool) (gen op : ℕ) (s : List ℕ) (v : ℕ) {blank : Bool} (skip : Bool) (eb : blank ≡ cond skip true (zero_of y gen op)) where
  -- a byte, and a byte that is left out
  byte : ℕ → ℕ
  byte = side_of y gen op (take 1024 s) v (indexes_of y op)

  said : (i : ℕ) → cond blank 0 (byte i) ≡ cond skip 0 (cond y (Vecint.y_bytes gen op (take 1024 s) v i) (Vecint.x_bytes gen op (take 1024 s) v i))
  unfolding byte
  said i =
      ap (λ (b : Bool). cond b 0 (byte i)) eb ∙ both skip (zero_of y gen op) (byte i) ∙ ap (cond skip 0) (as_said y gen op (take 1024 s) v i)

  pub none_left : blank ≡ true → table (λ i. 0) 0 64 ≡ bytes_of y gen op s v skip
  none_left e = λ t. table (λ i. (sym (pick_true 0 (byte i) e) ∙ said i) t) 0 64

  pub all_left : {indexed : Bool} {out : List ℕ} → blank ≡ false → indexed ≡ indexes_of y op → out ≡ table (side_of y gen op s v indexed) 0 64
      → out ≡ bytes_of y gen op s v skip
  unfolding byte
  all_left e ei eo =
      eo ∙ (λ t. table (side_of y gen op s v (ei t)) 0 64) ∙ table_same _ _ 64 (of-xy y gen op s v (indexes_of y op))
      ∙ (λ t. table (λ i. (sym (pick_false 0 (byte i) e) ∙ said i) t) 0 64)
