-- The lanes of X and Y that a vector uses, as the code reads them.
-- Assumes nothing.
use Rattle.std.proofs.Common.{◌≡◌, ℕ, zero, suc, ◌+◌, ◌*◌, ◌/◌, ◌%◌, ◌<◌, ◌≤◌, Bool, true, false, cond, ◌&&◌, ◌||◌, eqb, ◌⊎◌, List, get_or, take}
use Rattle.std.proofs.Common.{ℤ, Option, Some, None, pos, sym, refl, ap, ◌∙◌, subst, inl, inr, mod-eq_of_lt, zero-add, arith, pow_pos}
use mathlib.Core.Bool as B
use native.Mathlib.Nat.{zero-mod}
use Rattle.number.specs.Bytes.{byte_at, number, table}
use Rattle.number.specs.Integers.{read, kept}
use Rattle.number.proofs.Bytes.{get_d-table, number_same}
use Rattle.number.proofs.Range.{signed_low}
use Rattle.isa.specs.Operand.{bit}
use Rattle.isa.specs.State.{lanes_of}
use Rattle.isa.specs.Vecint as Vecint
use Rattle.operand.proofs.Widths.{by-widths, lanes-dealt, narrower-cases}
use Rattle.sides.specs.Sides.{lane_of, lane_bytes, index_of, term_of, side_by, kept_terms}
use Rattle.sides.specs.declared.SideForm.{SideForm}
use Rattle.sides.proofs.Elements.{side-at, kept_at}
use Rattle.loads.specs.Loads.{bytes_of}
use Rattle.vecint.specs.Vectors.{vector_lanes, x_side_of, y_side_of, fixed_x, fixed_y, HoldsTerms}
use Rattle.vecint.specs.declared.Alu.{Alu}

-- ---- a lane of the bytes loaded

no_bytes : (b p : ℕ) → number b (λ i. 0) p ≡ 0
unfolding number
no_bytes zero p = refl
no_bytes (suc b) p = omega (arith, no_bytes b (suc p))

read-nothing : (sign : Bool) (b : ℕ) → read sign b 0 ≡ pos 0
read-nothing true b = signed_low b 0 (pow_pos (8 * b))
read-nothing false b = refl

module _ (sign : Bool) (b j : ℕ) (f : ℕ → ℕ) (inside : b * j + b ≤ 64) where
  in_table : (h : ℕ → ℕ) (i : ℕ) → i < 64 → byte_at (table h 0 64) i ≡ h i
  in_table h i l = get_d-table h 0 0 64 i l ∙ ap h (zero-add i)

  -- 0 where the side is left out
  lane-read : (skip : Bool) → lane_of sign b (table (λ i. cond skip 0 (f i)) 0 64) j ≡ cond skip (pos 0) (read sign b (number b f (b * j)))
  unfolding lane_of
  lane-read true =
      ap (read sign b)
      (number_same b (byte_at (table (λ i. 0) 0 64)) (λ i. 0) (b * j) (λ k l. in_table (λ i. 0) (b * j + k) (omega arith)) ∙ no_bytes b (b * j))
      ∙ read-nothing sign b
  lane-read false = ap (read sign b) (number_same b (byte_at (table f 0 64)) f (b * j) (λ k l. in_table f (b * j + k) (omega arith)))

-- ---- which lane, by the widths

-- a side of b bytes beside one of other bytes, where n is the narrower
record Sided (b other n : ℕ) : Type 0 where
  bytes : lane_bytes (eqb b 2) ≡ b
  index : (k : ℕ) → cond (eqb b 2 && eqb other 1) (k / 2) k ≡ k / (b / n)
  inside : (k : ℕ) → k < lanes_of n → b * (k / (b / n)) + b ≤ 64
  any : (l : ℕ) → b * (l % lanes_of b) + b ≤ 64

both-2 : Sided 2 2 2
both-2 = record { bytes = refl; index = λ k. omega arith; inside = λ k h. omega arith; any = λ l. omega arith }

both-1 : Sided 1 1 1
both-1 = record { bytes = refl; index = λ k. omega arith; inside = λ k h. omega arith; any = λ l. omega arith }

narrow : Sided 1 2 1
narrow = record { bytes = refl; index = λ k. omega arith; inside = λ k h. omega arith; any = λ l. omega arith }

wider : Sided 2 1 1
wider = record { bytes = refl; index = λ k. refl; inside = λ k h. omega arith; any = λ l. omega arith }

x_sided : (op : ℕ) → Sided (Vecint.widths op).x (Vecint.widths op).y (Vecint.narrower (Vecint.widths op))
x_sided = by-widths (λ w. Sided w.x w.y (Vecint.narrower w)) both-2 both-2 both-1 both-1 narrow wider

y_sided : (op : ℕ) → Sided (Vecint.widths op).y (Vecint.widths op).x (Vecint.narrower (Vecint.widths op))
y_sided = by-widths (λ w. Sided w.y w.x (Vecint.narrower w)) both-2 both-2 both-1 both-1 wider narrow

-- the lane that the code uses
abbrev lane-used : Option ℕ → ℕ → ℕ → ℕ → ℕ
lane-used (Some lane) b n k = lane % lanes_of b
lane-used None b n k = k / (b / n)

used_inside : (b other n : ℕ) → Sided b other n → (fixed : Option ℕ) (k : ℕ) → k < lanes_of n → b * lane-used fixed b n k + b ≤ 64
used_inside b other n s (Some lane) k h = s.any lane
used_inside b other n s None k h = s.inside k h

side-lane : (b other n : ℕ) → Sided b other n → (sign skip : Bool) (fixed : Option ℕ) (k : ℕ) (f : ℕ → ℕ) → k < lanes_of n
    → lane_of sign (lane_bytes (eqb b 2)) (table (λ i. cond skip 0 (f i)) 0 64) (index_of (eqb b 2) fixed (eqb other 1) k)
    ≡ cond skip (pos 0) (read sign b (number b f (b * lane-used fixed b n k)))
unfolding index_of
side-lane b other n s sign skip (Some lane) k f h =
    (λ t. lane_of sign (s.bytes t) (table (λ i. cond skip 0 (f i)) 0 64) (lane % (64 / s.bytes t)))
    ∙ lane-read sign b (lane-used (Some lane) b n k) f (used_inside b other n s (Some lane) k h) skip
side-lane b other n s sign skip None k f h =
    (λ t. lane_of sign (s.bytes t) (table (λ i. cond skip 0 (f i)) 0 64) (s.index k t))
    ∙ lane-read sign b (lane-used None b n k) f (used_inside b other n s None k h) skip

-- ---- X and Y

-- the lane of X, by whether its lane 0 is broadcast
by-broadcast : (all : Bool) (b n k : ℕ) → lane-used (cond all (Some 0) None) b n k ≡ cond all 0 (k / (b / n))
by-broadcast true b n k = zero-mod (lanes_of b)
by-broadcast false b n k = refl

-- the lane of Y, by whether there are several vectors, broadcast mode 7 and enable mode 1
by-several : (several seven one : Bool) (value b n k : ℕ)
    → lane-used (cond several (cond seven (Some 0) None) (cond one (Some value) None)) b n k
    ≡ cond (several && (seven || seven)) 0 (cond (B.not several && one) (value % lanes_of b) (k / (b / n)))
by-several true true one value b n k = zero-mod (lanes_of b)
by-several true false one value b n k = refl
by-several false seven true value b n k = refl
by-several false seven false value b n k = refl

module _ (gen op : ℕ) (s : List ℕ) (v : ℕ) (skip : Bool) (not : Vecint.reduces op ≡ false) (k : ℕ) (hk : k < vector_lanes op) where
  in-side : k < lanes_of (Vecint.narrower (Vecint.widths op))
  in-side = subst (λ (n : ℕ). k < n) (lanes-dealt op not) hk

  in_list : k < 64
  in_list = few (narrower-cases op) in-side
    where
      few : {n : ℕ} → (n ≡ 1) ⊎ (n ≡ 2) → k < lanes_of n → k < 64
      few (inl e) h = omega (arith, subst (λ (n : ℕ). k < lanes_of n) e h)
      few (inr e) h = omega (arith, subst (λ (n : ℕ). k < lanes_of n) e h)

  pub x-lanes : get_or (side_by (x_side_of gen op) (bytes_of false gen op s v skip)) k (pos 0) ≡ cond skip (pos 0) (Vecint.x_of gen op (take 1024 s) v k)
  unfolding Vecint.x_of Vecint.x_index
  x-lanes =
      side-at (eqb b 2) (bit op 63) (bytes_of false gen op s v skip) (fixed_x gen op) (eqb (Vecint.widths op).y 1) k in_list
      ∙ side-lane b (Vecint.widths op).y n (x_sided op) (bit op 63) skip (fixed_x gen op) k f in-side
      ∙ ap (λ (j : ℕ). cond skip (pos 0) (read (bit op 63) b (number b f (b * j)))) (by-broadcast (Vecint.broadcasts gen op 6 6) b n k)
    where
      b : ℕ
      b = (Vecint.widths op).x

      n : ℕ
      n = Vecint.narrower (Vecint.widths op)

      f : ℕ → ℕ
      f = Vecint.x_bytes gen op (take 1024 s) v

  pub y-lanes : get_or (side_by (y_side_of gen op) (bytes_of true gen op s v skip)) k (pos 0) ≡ cond skip (pos 0) (Vecint.y_of gen op (take 1024 s) v k)
  unfolding Vecint.y_of Vecint.y_index
  y-lanes =
      side-at (eqb b 2) (bit op 26) (bytes_of true gen op s v skip) (fixed_y gen op) (eqb (Vecint.widths op).x 1) k in_list
      ∙ side-lane b (Vecint.widths op).x n (y_sided op) (bit op 26) skip (fixed_y gen op) k f in-side
      ∙ ap (λ (j : ℕ). cond skip (pos 0) (read (bit op 26) b (number b f (b * j)))) used
    where
      b : ℕ
      b = (Vecint.widths op).y

      n : ℕ
      n = Vecint.narrower (Vecint.widths op)

      f : ℕ → ℕ
      f = Vecint.y_bytes gen op (take 1024 s) v

      used : lane-used (fixed_y gen op) b n k ≡ Vecint.y_index gen op k
      used =
          unfold Vecint.y_index Vecint.broadcasts in
          by-several (Vecint.several gen op) (eqb (Vecint.broadcast_mode op) 7) (eqb (Vecint.enable_mode op) 1) (Vecint.enable_value op) b n k

-- the terms, from the parts that the code has read
pub terms_held : (gen op : ℕ) (s : List ℕ) (v : ℕ) (how : Alu) (ts : List ℤ) (xb yb : List ℕ) (x y : SideForm) (n sh : ℕ) → Vecint.reduces op ≡ false → v < 4
    → xb ≡ bytes_of false gen op s (v % 4) how.skipx → yb ≡ bytes_of true gen op s (v % 4) how.skipy
    → x ≡ x_side_of gen op → y ≡ y_side_of gen op → n ≡ vector_lanes op → n ≤ 64
    → sh ≡ Vecint.shift op → sh < 32 → ts ≡ kept_terms n how.sums how.clamps (sh % 32) (side_by x xb) (side_by y yb) → HoldsTerms gen op s v how ts
terms_held gen op s v how ts xb yb x y n sh not four exb eyb ex ey en few es small et k hk =
    let v' : v % 4 ≡ v = mod-eq_of_lt four in
    let xs = exb ∙ ap (λ (w : ℕ). bytes_of false gen op s w how.skipx) v' in
    let ys = eyb ∙ ap (λ (w : ℕ). bytes_of true gen op s w how.skipy) v' in
    (λ i. get_or (et i) k (pos 0))
    ∙ kept_at n how.sums how.clamps (sh % 32) (side_by x xb) (side_by y yb) k (subst (λ (m : ℕ). k < m) (sym en) hk) (omega (arith, hk, en))
    ∙ (λ i. kept 4 (term_of how.sums how.clamps ((mod-eq_of_lt small ∙ es) i)
    (((λ j. get_or (side_by (ex j) (xs j)) k (pos 0)) ∙ x-lanes gen op s v how.skipx not k hk) i)
    (((λ j. get_or (side_by (ey j) (ys j)) k (pos 0)) ∙ y-lanes gen op s v how.skipy not k hk) i)))
