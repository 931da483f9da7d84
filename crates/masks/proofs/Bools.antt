-- A bool for each lane, made of a mask; a lane as the code reads it.
-- Assumes nothing.
use mathlib.Core.Path.{◌≡◌, sym, ap, ap₂, ◌∙◌}
use mathlib.Core.Bool.{Bool, true}
use mathlib.Core.List.{List}
use mathlib.Core.Logic.{⊎_elim}
use Prim.Native.Nat.{ℕ, suc, ◌+◌, ◌-◌, ◌*◌, ◌/◌, ◌%◌, ◌^◌, ◌≤◌, ◌<◌}
use native.Mathlib.Nat.{zero-add, add-zero, add-mul, one-mul, mod-lt, max-eq_right}
use native.Mathlib.Omega.{arith}
use lib.Dec.{eqb}
use lib.ListN.{get_or, replicate, length-replicate, get_or-replicate}
use lib.Pow.{pow_pos, split, field, mod-mod-pow, shr-shr}
use lib.Bits.{bit_or, or_step, or_zero_r, or_block}
use lib.Seq.{ext_get_or}
use borrow.Author.Tests.{eq-eqb, ne_eqb, eqb-true, eqb-false}
use Rattle.number.specs.Bytes.{table}
use Rattle.number.proofs.Bytes.{table_same, length-table, get_d-table}
use Rattle.number.proofs.Tests.{two, lt_or_le}
use Rattle.isa.specs.Operand.{bits, bit}
use Rattle.masks.specs.Mask.{mask_of}
use Rattle.masks.proofs.Mask.{mask_all, bits-are_lanes, shifted}

-- a mask's bools are its rule
pub lanes-of_rule : (f : ℕ → Bool) (places n m : ℕ) (on : List Bool) → n ≤ places → m ≡ mask_of f places → on ≡ table (bit m) 0 n → on ≡ table f 0 n
lanes-of_rule f places n m on h e eo = eo ∙ table_same _ _ n (λ k l. ap (λ (x : ℕ). bit x k) e ∙ bits-are_lanes f places k (omega arith))

-- one value n times
pub same-all : {A : Type 0} (n : ℕ) (x : A) → replicate n x ≡ table (λ k. x) 0 n
same-all n x =
    ext_get_or x (replicate n x) (table (λ k. x) 0 n) (length-replicate n x ∙ sym (length-table (λ k. x) 0 n))
    (λ k l.
    let inside : k < n = omega (arith, length-replicate n x) in
    get_or-replicate n k x x inside ∙ sym (get_d-table (λ k. x) x 0 n k inside))

-- all of them on, at once
pub lanes_on : (n m : ℕ) → n ≤ 64 → m ≡ 2 ^ 64 - 1 → replicate n true ≡ table (bit m) 0 n
lanes_on n m h e =
    same-all n true
    ∙ table_same _ _ n (λ k l. sym (ap (λ (x : ℕ). bit x k) (e ∙ mask_all 64) ∙ bits-are_lanes (λ k. true) 64 k (omega arith)))

-- a digit of 16 others
digit_in_word : (m q r : ℕ) → r < 16 → m / 2 ^ q % 65536 / 2 ^ r % 2 ≡ m / 2 ^ (q + r) % 2
digit_in_word m q r h =
    ap (λ (x : ℕ). m / 2 ^ q % 2 ^ x / 2 ^ r % 2) sixteen
    ∙ ap (λ (x : ℕ). x % 2) (field (m / 2 ^ q) ((15 - r) + 1) r)
    ∙ mod-mod-pow (m / 2 ^ q / 2 ^ r) (15 - r) 1
    ∙ ap (λ (x : ℕ). x % 2) (shr-shr m q r)
  where
    sixteen : 16 ≡ ((15 - r) + 1) + r
    sixteen = omega arith

-- a digit that is set already
one_more : (n : ℕ) → bit_or n 1 ≡ n / 2 * 2 + 1
one_more n = or_step n 1 ∙ ap₂ (λ (x y : ℕ). x * 2 + y) (or_zero_r (n / 2)) (max-eq_right {n = n % 2} {m = 1} (omega arith))

set-already : (w r : ℕ) → eqb (bit_or w (2 ^ r)) w ≡ eqb (w / 2 ^ r % 2) 1
set-already w r =
    two (eqb (w / 2 ^ r % 2) 1) _
    (λ t. eq-eqb _ w (set ∙ ap (λ (x : ℕ). x * 2 ^ r + w % 2 ^ r) (odd (eqb-true _ 1 t)) ∙ split w r) ∙ sym t)
    (λ f.
    let more = ap (λ (x : ℕ). x * 2 ^ r) (even (eqb-false _ 1 f)) in
    ne_eqb _ w (λ e. omega (arith, e, set, split w r, pow_pos r, more, add-mul (w / 2 ^ r) 1 (2 ^ r))) ∙ sym f)
  where
    set : bit_or w (2 ^ r) ≡ (w / 2 ^ r / 2 * 2 + 1) * 2 ^ r + w % 2 ^ r
    set =
        ap₂ bit_or (sym (split w r)) (sym (add-zero (1 * 2 ^ r) ∙ one-mul (2 ^ r)))
        ∙ or_block r (w / 2 ^ r) 1 (w % 2 ^ r) 0 (mod-lt w (pow_pos r)) (pow_pos r)
        ∙ ap₂ (λ (x y : ℕ). x * 2 ^ r + y) (one_more (w / 2 ^ r)) (or_zero_r (w % 2 ^ r))

    odd : w / 2 ^ r % 2 ≡ 1 → w / 2 ^ r / 2 * 2 + 1 ≡ w / 2 ^ r
    odd e = omega (arith, e)

    even : (w / 2 ^ r % 2 ≡ 1 → ⊥) → w / 2 ^ r / 2 * 2 + 1 ≡ w / 2 ^ r + 1
    even n = ⊎_elim (λ less. omega arith) (λ more. absurd (n (omega arith))) (lt_or_le (w / 2 ^ r % 2) 1)

-- lane k, as the code takes it from 16 bits of the mask
pub lane-in_word : (m k lane : ℕ) → lane ≡ 1 * 2 ^ (k % 16) % 65536
    → eqb (bit_or (m / 2 ^ (k / 16 * 16) % 65536) lane) (m / 2 ^ (k / 16 * 16) % 65536) ≡ bit m k
unfolding bits
lane-in_word m k lane e =
    let word : ℕ = m / 2 ^ (k / 16 * 16) % 65536 in
    ap (λ (x : ℕ). eqb (bit_or word x) word) (e ∙ shifted (k % 16) 16 (omega arith))
    ∙ set-already word (k % 16)
    ∙ ap (λ (d : ℕ). eqb d 1) (digit_in_word m (k / 16 * 16) (k % 16) (omega arith) ∙ ap (λ (x : ℕ). m / 2 ^ x % 2) place)
    ∙ ap (λ (x : ℕ). eqb (m / 2 ^ k % 2 ^ x) 1) one
  where
    place : k / 16 * 16 + k % 16 ≡ k
    place = omega arith

    one : 1 ≡ suc k - k
    one = omega arith
