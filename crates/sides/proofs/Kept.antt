-- What 32 bits keep of a term, by the parts that the code makes, and of the first terms of two sides.
-- Assumes nothing.
use mathlib.Core.Path.{◌≡◌, refl, sym, ap, ap₂, ◌∙◌, subst}
use mathlib.Core.Bool.{Bool, true, false, cond}
use mathlib.Core.List.{List}
use mathlib.Core.Logic.{⊎_elim}
use Prim.Native.Nat.{ℕ, zero, suc, ◌+◌, ◌*◌, ◌/◌, ◌^◌, ◌≤◌, ◌<◌}
use native.Mathlib.Nat.{mul-le-mul, mod-eq_of_lt, zero-add, div-le_self}
use native.Mathlib.Omega.{arith}
use lib.Dec.{T, ltb}
use lib.IntN.{ℤ, pos, negsuc, neg_ℤ, nat_abs, ◌+ℤ◌, ◌*ℤ◌, *ℤ_comm}
use lib.ListN.{get_or}
use lib.Signed.{mag, non_neg}
use mir.Syntax.{w32}
use mir.Val.{SFits, to_z, of_z}
use mir.Facts.{to_z-of_z}
use borrow.Author.Tests.{lt-ltb, le-ltb}
use Rattle.number.specs.Integers.{signed, read, kept, ◌≫◌}
use Rattle.number.proofs.Bytes.{get_d-table, table_same}
use Rattle.number.proofs.Range.{kept_same, mag-add}
use Rattle.number.proofs.Tests.{lt_or_le, pick_true, pick_false}
use Rattle.sides.specs.Sides.{side_by, term_of, kept_terms, values_of, signed_by, HoldsLanes, HoldsEach}
use Rattle.sides.specs.declared.SideForm.{SideForm}
use Rattle.number.proofs.Fill.{fill-all}

-- ---- bounds

mag-negative : (n : ℕ) → mag (neg_ℤ (pos n)) ≤ n
mag-negative zero = omega arith
mag-negative (suc n) = omega arith

-- of a signed one by an unsigned one
pub mag-mixed : (x : ℤ) (y : ℕ) → mag x < 32768 → y < 65536 → mag (x *ℤ pos y) ≤ 2147450880
mag-mixed (pos x) y h l =
    let a : x ≤ 32767 = omega arith in
    let b : y ≤ 65535 = omega arith in
    let m : x * y ≤ 32767 * 65535 = mul-le-mul a b in
    omega (arith, m)
mag-mixed (negsuc x) y h l =
    let b : y ≤ 65535 = omega arith in
    let m : suc x * y ≤ 32768 * 65535 = mul-le-mul h b in
    omega (arith, mag-negative (suc x * y), m)

pub unsigned_bound : (x y : ℕ) → x < 65536 → y < 65536 → x * y ≤ 4294836225
unsigned_bound x y h l =
    let a : x ≤ 65535 = omega arith in
    let b : y ≤ 65535 = omega arith in
    let m : x * y ≤ 65535 * 65535 = mul-le-mul a b in
    omega (arith, m)

-- ---- as code holds them

module _ (a b : ℤ) (fits-a : SFits w32 a) (fits-b : SFits w32 b) (fits : SFits w32 (a +ℤ b)) where
  held : to_z w32 (of_z w32 a) +ℤ to_z w32 (of_z w32 b) ≡ a +ℤ b
  held = ap₂ ◌+ℤ◌ (to_z-of_z fits-a) (to_z-of_z fits-b)

  pub sum_fits : SFits w32 (to_z w32 (of_z w32 a) +ℤ to_z w32 (of_z w32 b))
  sum_fits = subst (SFits w32) (sym held) fits

  pub sum_is : to_z w32 (of_z w32 (to_z w32 (of_z w32 a) +ℤ to_z w32 (of_z w32 b))) ≡ a +ℤ b
  sum_is = ap (λ (z : ℤ). to_z w32 (of_z w32 z)) held ∙ to_z-of_z fits

pub rounded : (v b : ℤ) → mag v ≤ 2147450880 → mag b ≤ 16384 → SFits w32 (v +ℤ b)
rounded v b h l = record { sfits = omega (arith, mag-add v b {A = 2147450881} {B = 16385} (omega arith) (omega arith)) }

pub lanes-sum : (x y : ℤ) → mag x < 65536 → mag y < 65536 → mag (x +ℤ y) < 131072
lanes-sum x y h l = mag-add x y h l

-- ---- a term

-- made in an i32, which keeps it
pub kept-term : (plus rounds : Bool) (s : ℕ) (x y v r : ℤ) → mag r < 2 ^ 31 → v ≡ cond plus (x +ℤ y) (x *ℤ y)
    → r ≡ (v +ℤ cond rounds (pos 16384) (pos 0)) ≫ s → r ≡ kept 4 (term_of plus rounds s x y)
unfolding term_of
kept-term plus rounds s x y v r h ev er =
    sym (kept_same 4 r (omega arith)) ∙ ap (kept 4) (er ∙ ap (λ (z : ℤ). (z +ℤ cond rounds (pos 16384) (pos 0)) ≫ s) ev)

-- made in a u32
pub kept-unsigned : (rounds : Bool) (s x y v q : ℕ) (r : ℤ) → q < 2 ^ 32 → v ≡ x * y → q ≡ (v + cond rounds 16384 0) / 2 ^ s → r ≡ signed 4 q
    → r ≡ kept 4 (term_of false rounds s (pos x) (pos y))
unfolding term_of
kept-unsigned true s x y v q r h ev eq er =
    er ∙ ap (signed 4) (sym (mod-eq_of_lt h)) ∙ ap (λ (k : ℕ). kept 4 (pos k)) (eq ∙ ap (λ (k : ℕ). (k + 16384) / 2 ^ s) ev)
kept-unsigned false s x y v q r h ev eq er =
    er ∙ ap (signed 4) (sym (mod-eq_of_lt h)) ∙ ap (λ (k : ℕ). kept 4 (pos k)) (eq ∙ ap (λ (k : ℕ). (k + 0) / 2 ^ s) ev)

-- ---- the first n of 64

abbrev kept_at : ℕ → Bool → Bool → ℕ → List ℤ → List ℤ → ℕ → ℤ
kept_at n plus rounds s xs ys k = cond (ltb k n) (kept 4 (term_of plus rounds s (get_or xs k (pos 0)) (get_or ys k (pos 0)))) (pos 0)

values_at : (sign : Bool) (bits : List ℕ) (k : ℕ) → k < 64 → get_or (values_of sign bits) k (pos 0) ≡ read sign 2 (get_or bits k 0)
unfolding values_of
values_at sign bits k h =
    let f : ℕ → ℤ = λ i. read sign 2 (get_or bits i 0) in
    get_d-table f (pos 0) 0 64 k h ∙ ap f (zero-add k)

-- terms made of the first n of 64 numbers
pub kept-each : (n : ℕ) (plus rounds : Bool) (s : ℕ) (xsigned ysigned : Bool) (xs ys : List ℕ) (out : List ℤ) {R : ℕ → ℕ → ℤ → Type 0} → HoldsEach n R xs ys out
    → ((x y : ℕ) (r : ℤ) → R x y r → r ≡ kept 4 (term_of plus rounds s (read xsigned 2 x) (read ysigned 2 y)))
    → out ≡ kept_terms n plus rounds s (values_of xsigned xs) (values_of ysigned ys)
unfolding kept_terms HoldsEach
kept-each n plus rounds s xsigned ysigned xs ys out {R} each gives =
    fill-all (pos 0) (kept_at n plus rounds s (values_of xsigned xs) (values_of ysigned ys)) 64 64 out each.0 (omega arith) at
  where
    at : (k : ℕ) → k < 64 → get_or out k (pos 0) ≡ kept_at n plus rounds s (values_of xsigned xs) (values_of ysigned ys) k
    at k l =
        ⊎_elim
        (λ less.
        gives _ _ _ (each.1 k less l)
        ∙ (λ t. kept 4 (term_of plus rounds s (sym (values_at xsigned xs k l) t) (sym (values_at ysigned ys k l) t)))
        ∙ sym (pick_true _ _ (lt-ltb k n less)))
        (λ more. each.2 k more ∙ sym (pick_false _ _ (le-ltb k n more)))
        (lt_or_le k n)

-- products of two sides, in either order
pub kept-swap : (n : ℕ) (rounds : Bool) (s : ℕ) (xs ys : List ℤ) → kept_terms n false rounds s ys xs ≡ kept_terms n false rounds s xs ys
unfolding kept_terms term_of
kept-swap n rounds s xs ys =
    table_same (kept_at n false rounds s ys xs) (kept_at n false rounds s xs ys) 64
    (λ k l. λ t. cond (ltb k n) (kept 4 ((*ℤ_comm (get_or ys k (pos 0)) (get_or xs k (pos 0)) t +ℤ cond rounds (pos 16384) (pos 0)) ≫ s)) (pos 0))

-- sides that have the same lanes, as far as lanes are used
pub kept-lanes : (n : ℕ) (plus rounds : Bool) (s : ℕ) (xs ys us vs : List ℤ)
    → ((k : ℕ) → k < n → k < 64 → get_or xs k (pos 0) ≡ get_or us k (pos 0)) → ((k : ℕ) → k < n → k < 64 → get_or ys k (pos 0) ≡ get_or vs k (pos 0))
    → kept_terms n plus rounds s xs ys ≡ kept_terms n plus rounds s us vs
unfolding kept_terms
kept-lanes n plus rounds s xs ys us vs ex ey =
    table_same (kept_at n plus rounds s xs ys) (kept_at n plus rounds s us vs) 64
    (λ k l.
    ⊎_elim
    (λ less. λ t. cond (ltb k n) (kept 4 (term_of plus rounds s (ex k less l t) (ey k less l t))) (pos 0))
    (λ more. pick_false _ _ (le-ltb k n more) ∙ sym (pick_false _ _ (le-ltb k n more)))
    (lt_or_le k n))

-- a side, read as the code does
pub read-lanes : (n : ℕ) (how : SideForm) (bytes bits : List ℕ) (sign : Bool) → HoldsLanes n (signed_by how) bits (side_by how bytes) → sign ≡ signed_by how
    → (k : ℕ) → k < n → k < 64 → get_or (values_of sign bits) k (pos 0) ≡ get_or (side_by how bytes) k (pos 0)
read-lanes n how bytes bits sign e s k l h = values_at sign bits k h ∙ ap (λ (b : Bool). read b 2 (get_or bits k 0)) s ∙ e k l h

-- a number of 32 bits that is shifted in an i64
pub shifted_up : (n s : ℕ) (r : ℤ) → n < 2 ^ 32 → r ≡ pos n ≫ s → T (non_neg r) × (nat_abs r < 2 ^ 32) × (nat_abs r ≡ n / 2 ^ s)
shifted_up n s r h e = subst (λ (z : ℤ). T (non_neg z) × (nat_abs z < 2 ^ 32) × (nat_abs z ≡ n / 2 ^ s)) (sym e)
    (tt, omega (arith, div-le_self n (2 ^ s)), refl)
