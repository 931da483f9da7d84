-- Sums and counts, and the answer's number: the bytes in enabled lanes, counted over all of Z.
-- Assumes nothing.
use mathlib.Core.Path.{◌≡◌, refl, sym, ap, ap₂, ◌∙◌}
use mathlib.Core.Bool.{Bool, true, false, cond, ◌&&◌}
use mathlib.Core.Logic.{⊎_elim}
use Prim.Native.Nat.{ℕ, zero, suc, ◌+◌, ◌*◌, ◌≤◌, ◌<◌}
use native.Mathlib.Nat.{add-zero, add-suc, suc-mul, mul-add, mul_comm, zero-mul, zero-add}
use native.Mathlib.Omega.{arith}
use lib.Dec.{eqb}
use lib.ListN.{length}
use borrow.Author.Tests.{ne_eqb, eqb-true, eqb-false}
use Rattle.isa.specs.declared.Answer.{Answer}
use Rattle.isa.specs.declared.Answer.TheVariants.{Done}
use Rattle.isa.specs.State.{lanes_of, start, count_of}
use Rattle.isa.specs.Effect.{Effect, nothing, touches, sum, count, bytes_on, lanes_on, Fills}
use Rattle.isa.specs.Call.{Call, effect_of}
use Rattle.isa.specs.Answers.{rows_above, answer_by, is_done}
use Rattle.isa.specs.Demands.{DoneCounted}
use Rattle.number.proofs.Tests.{true_false, two, either, pick_true, pick_false, lt_or_le}
use Rattle.isa.proofs.Place.{lanes-fill, start-row, start-lane, start-in}
use Rattle.isa.proofs.Applied.{not_xy, touches-in, nothing-touched}
use Rattle.isa.proofs.Lawful.{fills}
use Rattle.isa.proofs.Rows.{first-all, above_all}

-- ---- sums

pub sum-cong : (f g : ℕ → ℕ) (n : ℕ) → ((k : ℕ) → k < n → f k ≡ g k) → sum f n ≡ sum g n
unfolding sum
sum-cong f g zero h = refl
sum-cong f g (suc n) h = ap₂ ◌+◌ (h n (omega arith)) (sum-cong f g n (λ k l. h k (omega arith)))

pub sum-add : (f : ℕ → ℕ) (a b : ℕ) → sum f (a + b) ≡ sum f a + sum (λ k. f (a + k)) b
unfolding sum
sum-add f a zero = ap (sum f) (add-zero a) ∙ sym (add-zero (sum f a))
sum-add f a (suc b) = ap (sum f) (add-suc a b) ∙ omega (arith, sum-add f a b)

-- the same number each time
pub sum-const : (c n : ℕ) → sum (λ k. c) n ≡ n * c
unfolding sum
sum-const c zero = omega arith
sum-const c (suc n) = omega (arith, sum-const c n, suc-mul n c)

pub sum-scale : (f : ℕ → ℕ) (c n : ℕ) → sum (λ k. c * f k) n ≡ c * sum f n
unfolding sum
sum-scale f c zero = omega arith
sum-scale f c (suc n) = omega (arith, sum-scale f c n, mul-add c (f n) (sum f n))

-- n groups of m
pub sum-groups : (f : ℕ → ℕ) (n m : ℕ) → sum f (n * m) ≡ sum (λ i. sum (λ j. f (i * m + j)) m) n
unfolding sum
sum-groups f zero m = ap (sum f) (zero-mul m)
sum-groups f (suc n) m = ap (sum f) (suc-mul n m) ∙ sum-add f (n * m) m ∙ omega (arith, sum-groups f n m)

pub none : (n : ℕ) → sum (λ k. 0) n ≡ 0
none n = sum-const 0 n ∙ omega arith

pub sum-plus : (f g : ℕ → ℕ) (n : ℕ) → sum (λ k. f k + g k) n ≡ sum f n + sum g n
unfolding sum
sum-plus f g zero = refl
sum-plus f g (suc n) = omega (arith, sum-plus f g n)

-- the order of two sums
pub sum-swap : (f : ℕ → ℕ → ℕ) (m n : ℕ) → sum (λ i. sum (f i) n) m ≡ sum (λ j. sum (λ i. f i j) m) n
unfolding sum
sum-swap f zero n = sym (none n)
sum-swap f (suc m) n = omega (arith, sum-swap f m n, sum-plus (f m) (λ j. sum (λ i. f i j) m) n)

-- ---- under a condition

-- a sum under a condition
pub sum-if : (b : Bool) (f : ℕ → ℕ) (n : ℕ) → sum (λ k. cond b (f k) 0) n ≡ cond b (sum f n) 0
sum-if true f n = refl
sum-if false f n = none n

-- lanes that a condition of the row governs
pub count-if : (b : Bool) (f : ℕ → Bool) (n : ℕ) → count (λ l. b && f l) n ≡ cond b (count f n) 0
count-if true f n = refl
count-if false f n = none n

pub count_most : (f : ℕ → Bool) (n : ℕ) → count f n ≤ n
unfolding sum
count_most f zero = omega arith
count_most f (suc n) =
    let one : cond (f n) 1 0 ≤ 1 = either (λ k. k ≤ 1) (f n) (omega arith) (omega arith) in
    omega (arith, one, count_most f n)

-- one row of many
pub sum_one : (c z n : ℕ) → z < n → sum (λ r. cond (eqb r z) c 0) n ≡ c
unfolding sum
sum_one c z zero h = omega arith
sum_one c z (suc n) h =
    two (eqb n z) (cond (eqb n z) c 0 + sum (λ r. cond (eqb r z) c 0) n ≡ c)
    (λ t.
    let last : n ≡ z = eqb-true n z t in
    let others : sum (λ r. cond (eqb r z) c 0) n ≡ 0 =
    sum-cong (λ r. cond (eqb r z) c 0) (λ r. 0) n (λ r l. pick_false _ _ (ne_eqb r z (λ e. omega (arith, e)))) ∙ none n
    in
    omega (arith, pick_true {b = eqb n z} c 0 t, others))
    (λ t.
    let before : z < n = ⊎_elim (λ less. less) (λ past. absurd (eqb-false n z t (omega arith))) (lt_or_le z n) in
    omega (arith, pick_false {b = eqb n z} c 0 t, sum_one c z n before))

-- ---- the bytes of the enabled lanes

module _ (e : Effect) where
  -- 1 for a byte that is touched
  abbrev one : ℕ → ℕ
  one p = cond (touches e p) 1 0

  -- X and Y have none
  in_z_lem : bytes_on e ≡ sum (λ q. one (1024 + q)) 4096
  unfolding bytes_on
  in_z_lem =
      sum-add one 1024 4096
      ∙ ap (λ (n : ℕ). n + sum (λ q. one (1024 + q)) 4096) before
      ∙ zero-add (sum (λ q. one (1024 + q)) 4096)
    where
      before : sum one 1024 ≡ 0
      before = sum-cong one (λ k. 0) 1024 (λ p h. ap (λ (t : Bool). cond t 1 0) (not_xy e p h)) ∙ none 1024

  pub bytes_most : bytes_on e ≤ 4096
  bytes_most = omega (arith, in_z_lem, count_most (λ q. touches e (1024 + q)) 4096)

  module _ (m : ℕ) (fit : m * e.width ≡ 64) where
    -- of a row, from its bytes to its lanes
    row-bytes : (row : ℕ) → row < 64 → sum (λ j. one (1024 + (row * 64 + j))) 64 ≡ e.width * count (e.on row) m
    row-bytes row h =
        ap (sum (λ j. one (1024 + (row * 64 + j)))) (sym fit)
        ∙ sum-groups (λ j. one (1024 + (row * 64 + j))) m e.width
        ∙ sum-cong (λ l. sum (λ k. one (1024 + (row * 64 + (l * e.width + k)))) e.width) (λ l. e.width * cond (e.on row l) 1 0) m lane
        ∙ sum-scale (λ l. cond (e.on row l) 1 0) e.width m
      where
        lane : (l : ℕ) → l < m → sum (λ k. one (1024 + (row * 64 + (l * e.width + k)))) e.width ≡ e.width * cond (e.on row l) 1 0
        lane l hl =
            sum-cong (λ k. one (1024 + (row * 64 + (l * e.width + k)))) (λ k. cond (e.on row l) 1 0) e.width byte
            ∙ sum-const (cond (e.on row l) 1 0) e.width
          where
            byte : (k : ℕ) → k < e.width → one (1024 + (row * 64 + (l * e.width + k))) ≡ cond (e.on row l) 1 0
            byte k hk =
                let p : ℕ = start e.width row l + k in
                let at : 1024 + (row * 64 + (l * e.width + k)) ≡ p = omega arith in
                ap one at
                ∙ ap (λ (t : Bool). cond t 1 0)
                (touches-in e p (omega arith) (start-in e.width m fit row l hl k hk h)
                ∙ ap₂ (λ (x y : ℕ). e.on x y) (start-row e.width m fit row l hl k hk) (start-lane e.width m fit row l hl k hk))

    pub bytes-lanes : bytes_on e ≡ lanes_on e * e.width
    unfolding lanes_on
    bytes-lanes =
        in_z_lem
        ∙ sum-groups (λ q. one (1024 + q)) 64 64
        ∙ sum-cong (λ row. sum (λ j. one (1024 + (row * 64 + j))) 64) (λ row. e.width * count (e.on row) (lanes_of e.width)) 64
        (λ row h. row-bytes row h ∙ ap (λ (n : ℕ). e.width * count (e.on row) n) (sym (lanes-fill e.width m fit)))
        ∙ sum-scale (λ row. count (e.on row) (lanes_of e.width)) e.width 64
        ∙ mul_comm e.width (sum (λ row. count (e.on row) (lanes_of e.width)) 64)

-- an effect that enables no lane touches no byte
pub nothing-bytes : bytes_on nothing ≡ 0
unfolding bytes_on
nothing-bytes = sum-cong (one nothing) (λ p. 0) 5120 (λ p h. ap (λ (t : Bool). cond t 1 0) (nothing-touched p)) ∙ none 5120

-- lanes that are counted give the bytes
pub bytes_of : (e : Effect) → Fills e.width → (n : ℕ) → n ≡ lanes_on e → n * e.width ≡ bytes_on e
bytes_of e (m, fit) n counted = ap (λ (k : ℕ). k * e.width) counted ∙ sym (bytes-lanes e m fit)

-- ---- the answer

done-bytes : (c : Call) (size count serial n : ℕ) → answer_by size count serial c ≡ Done n → n ≡ bytes_on (effect_of c)
unfolding answer_by
done-bytes c size count serial n =
    first-all (λ a. a ≡ Done n → n ≡ bytes) (rows_above size count serial c) (Done bytes)
    (above_all (λ a. a ≡ Done n → n ≡ bytes) (no _ refl) (no _ refl) (no _ refl) (no _ refl) (no _ refl) (no _ refl) (no _ refl) (no _ refl) (no _ refl)
    size count serial c)
    (λ e. cc)
  where
    bytes : ℕ
    bytes = bytes_on (effect_of c)

    -- no row above the last answers done
    no : (a : Answer) → is_done a ≡ false → a ≡ Done n → n ≡ bytes
    no a f e = absurd (true_false (sym (ap is_done e) ∙ f))

pub done-counted : DoneCounted
done-counted c serial s n e =
    let bytes : n ≡ bytes_on (effect_of c) = done-bytes c (length s) (count_of s) serial n e in
    record {
      bytes = bytes;
      lanes = bytes ∙ bytes-lanes (effect_of c) (fills c).0 (fills c).1;
      most = omega (arith, bytes, bytes_most (effect_of c));
    }
