-- The enabled lanes and their bytes, counted by the mask.
-- Assumes nothing.
use Rattle.std.proofs.Common.{◌≡◌, ℕ, ◌+◌, ◌-◌, ◌*◌, ◌/◌, ◌%◌, ◌^◌, ◌<◌, Bool, cond, ◌&&◌, ◌||◌, eqb, ltb, sym, ap, ◌∙◌, subst, ap₂, ⊎_elim, mod-lt}
use Rattle.std.proofs.Common.{mul_assoc, mul_comm, div-lt_iff_lt-mul, add-mul, mul-div_cancel, arith, le-ltb, lt-ltb}
use lib.Arith.{digits_lt, digits_div, digits_mod}
use Rattle.number.proofs.Tests.{pick_true, pick_false, lt_or_le}
use Rattle.isa.specs.Operand.{bit}
use Rattle.isa.specs.State.{lanes_of}
use Rattle.isa.specs.Effect.{sum, count, bytes_on, lanes_on}
use Rattle.isa.specs.Vecint as Vecint
use Rattle.isa.specs.Vecint.{several, masked, z_row, z_width}
use Rattle.isa.proofs.Count.{sum-cong, sum-const, sum-groups, sum-if, sum_one, sum-swap, count-if, bytes_of}
use Rattle.isa.proofs.Lawful.{vecint-fills}
use Rattle.isa.proofs.Place.{factor_pos, lanes-fill}
use Rattle.isa.proofs.Places.{Stride, stride, each}
use Rattle.isa.proofs.NormalVecint.{rows-each}
use Rattle.masks.specs.Mask.{mask_of}
use Rattle.masks.proofs.Mask.{counts_rule, counted-all}
use Rattle.vecint.specs.Vectors.{vector_lanes}
use Rattle.vecint.proofs.Bounds.{few-lanes}

-- w strides make 64 rows, and m groups of r rows a stride; a lane is enabled where its row is in group g and f holds of its k
module _ (w m r : ℕ) (hr : 0 < r) (all : w * (m * r) ≡ 64) (f : ℕ → Bool) (g : ℕ) (hg : g < m) (n : ℕ) where
  -- the lanes that row q of a group takes
  abbrev part : ℕ → ℕ
  part q = count (λ l. f (l * r + q)) n

  abbrev row : ℕ → ℕ
  row p = cond (eqb (p % (m * r) / r) g) (part (p % r)) 0

  -- row q of group i of vector v
  at : (v i q : ℕ) → i < m → q < r → row (v * (m * r) + (i * r + q)) ≡ cond (eqb i g) (part q) 0
  at v i q hi hq =
      let in-groups : v * (m * r) + (i * r + q) ≡ (v * m + i) * r + q = omega (arith, add-mul (v * m) i r, mul_assoc v m r) in
      let group : (v * (m * r) + (i * r + q)) % (m * r) / r ≡ i =
      ap (λ (x : ℕ). x / r) (digits_mod v (digits_lt hi hq)) ∙ digits_div i hq
      in
      let place : (v * (m * r) + (i * r + q)) % r ≡ q = ap (λ (x : ℕ). x % r) in-groups ∙ digits_mod (v * m + i) hq in
      ap₂ (λ (x y : ℕ). cond (eqb x g) (part y) 0) group place

  -- the rows of a group take all lanes
  parts : sum part r ≡ count f (r * n)
  parts =
      sum-swap (λ q l. cond (f (l * r + q)) 1 0) r n
      ∙ sym (sum-groups (λ k. cond (f k) 1 0) n r)
      ∙ ap (count f) (mul_comm n r)

  -- of a vector's stride, one group is written
  vector : (v : ℕ) → sum (λ p. row (v * (m * r) + p)) (m * r) ≡ count f (r * n)
  vector v =
      sum-groups (λ p. row (v * (m * r) + p)) m r
      ∙ sum-cong (λ i. sum (λ q. row (v * (m * r) + (i * r + q))) r) (λ i. cond (eqb i g) (sum part r) 0) m
      (λ i hi.
      sum-cong (λ q. row (v * (m * r) + (i * r + q))) (λ q. cond (eqb i g) (part q) 0) r (λ q hq. at v i q hi hq)
      ∙ sum-if (eqb i g) part r)
      ∙ sum_one (sum part r) g m hg
      ∙ parts

  rows-count : sum (λ p. count (λ l. eqb (p % (m * r) / r) g && f (l * r + p % r)) n) 64 ≡ w * count f (r * n)
  rows-count =
      sum-cong (λ p. count (λ l. eqb (p % (m * r) / r) g && f (l * r + p % r)) n) row 64
      (λ p h. count-if (eqb (p % (m * r) / r) g) (λ l. f (l * r + p % r)) n)
      ∙ ap (sum row) (sym all)
      ∙ sum-groups row w (m * r)
      ∙ sum-cong (λ v. sum (λ p. row (v * (m * r) + p)) (m * r)) (λ v. count f (r * n)) w (λ v h. vector v)
      ∙ sum-const (count f (r * n)) w

-- for a stride s
strides : (s r : ℕ) → Stride s → (m : ℕ) × (m * r ≡ 16) → (f : ℕ → Bool) (z n : ℕ)
    → sum (λ p. count (λ l. eqb (p % s / r) (z % s / r) && f (l * r + p % r)) n) 64 ≡ 64 / s * count f (r * n)
strides s r (t, (w, (es, ew))) (m, er) f z n =
    subst (λ (x : ℕ). sum (λ p. count (λ l. eqb (p % x / r) (z % s / r) && f (l * r + p % r)) n) 64 ≡ w * count f (r * n)) (sym whole)
    (rows-count w (t * m) r pos (subst (λ (x : ℕ). w * x ≡ 64) whole ew) f (z % s / r)
    ((div-lt_iff_lt-mul pos).1 (subst (λ (x : ℕ). z % s < x) whole (mod-lt z some))) n)
    ∙ ap (λ (x : ℕ). x * count f (r * n)) (sym (ap (λ (x : ℕ). x / s) (sym ew) ∙ mul-div_cancel w some))
  where
    whole : s ≡ t * m * r
    whole = es ∙ ap (λ (x : ℕ). t * x) (sym er) ∙ sym (mul_assoc t m r)

    pos : 0 < r
    pos = factor_pos r m 15 er

    some : 0 < s
    some = factor_pos s w 63 ew

pub count-vecint : (gen op : ℕ)
    → lanes_on (Vecint.vecint gen op)
    ≡ 64 / Vecint.stride gen op * count (λ k. several gen op || masked op k) (Vecint.rows_each op * lanes_of (z_width op))
unfolding lanes_on Vecint.on Vecint.writes Vecint.k_of
count-vecint gen op =
    strides (Vecint.stride gen op) (Vecint.rows_each op) (stride gen op) (each (Vecint.rows_each op) (rows-each op))
    (λ k. several gen op || masked op k) (z_row op) (lanes_of (z_width op))

-- ---- as the code counts them, by the mask

-- a vector's bytes: all lanes are whole rows
pub all-bytes : (op mask rows : ℕ) → mask ≡ 2 ^ 64 - 1 → rows ≡ Vecint.rows_each op → 64 * rows ≡ count (bit mask) (vector_lanes op) * z_width op
all-bytes op mask rows em er =
    let r : ℕ = Vecint.rows_each op in
    let z : ℕ = z_width op in
    let row : 64 ≡ lanes_of z * z = sym (vecint-fills op).1 ∙ ap (λ (m : ℕ). m * z) (sym (lanes-fill z (vecint-fills op).0 (vecint-fills op).1)) in
    mul_comm 64 rows
    ∙ ap₂ ◌*◌ er row
    ∙ sym (mul_assoc r (lanes_of z) z)
    ∙ ap (λ (n : ℕ). n * z) (counted-all mask (vector_lanes op) (few-lanes op) em)

-- and by a count of some
pub some_bytes : (op mask lanes n width : ℕ) → lanes ≡ vector_lanes op → n ≡ count (bit mask) (cond (ltb lanes 64) lanes 64) → width ≡ z_width op
    → n * width ≡ count (bit mask) (vector_lanes op) * z_width op
some_bytes op mask lanes n width el en ew = ap₂ ◌*◌ (en ∙ ap (count (bit mask)) at_most) ew
  where
    at_most : cond (ltb lanes 64) lanes 64 ≡ vector_lanes op
    at_most =
        ⊎_elim (λ less. pick_true _ _ (lt-ltb lanes 64 less) ∙ el)
        (λ more. pick_false _ _ (le-ltb lanes 64 more) ∙ omega (arith, el, few-lanes op))
        (lt_or_le lanes 64)

-- of all vectors
pub counted : (gen op vectors bytes mask : ℕ) → vectors ≡ 64 / Vecint.stride gen op → mask ≡ mask_of (λ k. several gen op || masked op k) 64
    → bytes ≡ count (bit mask) (vector_lanes op) * z_width op → vectors * bytes ≡ bytes_on (Vecint.vecint gen op)
counted gen op vectors bytes mask ev em eb =
    let rule : ℕ → Bool = λ k. several gen op || masked op k in
    let n : ℕ = count rule (vector_lanes op) in
    let lanes : vectors * n ≡ lanes_on (Vecint.vecint gen op) = ap (λ (v : ℕ). v * n) ev ∙ sym (count-vecint gen op) in
    ap (λ (b : ℕ). vectors * b) (eb ∙ ap (λ (m : ℕ). m * z_width op) (counts_rule rule 64 (vector_lanes op) mask (few-lanes op) em))
    ∙ sym (mul_assoc vectors n (z_width op))
    ∙ bytes_of (Vecint.vecint gen op) (vecint-fills op) (vectors * n) lanes
