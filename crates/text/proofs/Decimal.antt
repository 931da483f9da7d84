-- The decimal digits of a number.
-- Assumes nothing.
use mathlib.Core.Path.{◌≡◌, sym, ap, subst, ◌∙◌}
use mathlib.Core.Bool.{true, false, cond}
use mathlib.Core.List.{List, [], ◌∷◌, ◌++◌, append_assoc}
use Prim.Native.Nat.{ℕ, zero, suc, ◌+◌, ◌*◌, ◌/◌, ◌%◌, ◌^◌, ◌≤◌, ◌<◌}
use native.Mathlib.Nat.{not-suc-le-zero}
use native.Mathlib.Omega.{arith}
use borrow.Author.Tests.{lt-ltb, le-ltb, ltb-true, ltb-false}
use lib.Dec.{ltb}
use lib.ListN.{length, length-append}
use Rattle.number.specs.Bytes.{byte_of, table, bytes_of}
use Rattle.number.proofs.Bytes.{byte_of_zero, byte_of_suc}
use Rattle.text.specs.Lines.{last_digits, digits}
use Rattle.number.proofs.Tests.{two}
use Rattle.text.proofs.Pieces.{Stored, stored_append}

-- one digit
few : (k n : ℕ) → n < 10 → last_digits (suc k) n ≡ (48 + n) ∷ []
few k n h =
    let small : n % 10 ≡ n = omega arith in
    let one : ltb n 10 ≡ true = lt-ltb n 10 h in
    (λ i. cond (one i) [] (last_digits k (n / 10)) ++ ((48 + small i) ∷ []))

-- more than one
many : (k n : ℕ) → 10 ≤ n → last_digits (suc k) n ≡ last_digits k (n / 10) ++ ((48 + n % 10) ∷ [])
many k n h =
    let more : ltb n 10 ≡ false = le-ltb n 10 h in
    (λ i. cond (more i) [] (last_digits k (n / 10)) ++ ((48 + n % 10) ∷ []))

-- how many are asked for does not matter where there are enough
enough : (j k n : ℕ) → n < j → n < k → last_digits j n ≡ last_digits k n
enough zero k n a b = absurd (not-suc-le-zero a)
enough (suc j) zero n a b = absurd (not-suc-le-zero b)
enough (suc j) (suc k) n a b =
    two (ltb n 10) (last_digits (suc j) n ≡ last_digits (suc k) n)
    (λ e. few j n (ltb-true n 10 e) ∙ sym (few k n (ltb-true n 10 e)))
    (λ e.
    let h : 10 ≤ n = ltb-false n 10 e in
    many j n h ∙ ap (λ (r : List ℕ). r ++ ((48 + n % 10) ∷ [])) (enough j k (n / 10) (omega arith) (omega arith)) ∙ sym (many k n h))

pub digits-few : (n : ℕ) → n < 10 → digits n ≡ (48 + n) ∷ []
unfolding digits
digits-few n h = few n n h

pub digits-many : (n : ℕ) → 10 ≤ n → digits n ≡ digits (n / 10) ++ ((48 + n % 10) ∷ [])
unfolding digits
digits-many n h = many n n h ∙ ap (λ (r : List ℕ). r ++ ((48 + n % 10) ∷ [])) (enough n (suc (n / 10)) (n / 10) (omega arith) (omega arith))

-- a number of two digits, and the last two of a longer one
abbrev pub pair : ℕ → List ℕ
pair n = (48 + n / 10) ∷ (48 + n % 10) ∷ []

digits-pair : (n : ℕ) → 10 ≤ n → n < 100 → digits n ≡ pair n
digits-pair n h fits = digits-many n h ∙ ap (λ (r : List ℕ). r ++ ((48 + n % 10) ∷ [])) (digits-few (n / 10) (omega arith))

digits-hundreds : (n : ℕ) → 100 ≤ n → digits n ≡ digits (n / 100) ++ pair (n % 100)
digits-hundreds n h =
    let front : digits (n / 10) ≡ digits (n / 100) ++ ((48 + n % 100 / 10) ∷ []) =
    digits-many (n / 10) (omega arith) ∙ λ i. digits (hundreds i) ++ ((48 + tens i) ∷ [])
    in
    digits-many n (omega arith)
    ∙ (λ i. front i ++ ((48 + ones i) ∷ []))
    ∙ append_assoc (digits (n / 100)) ((48 + n % 100 / 10) ∷ []) ((48 + n % 100 % 10) ∷ [])
  where
    hundreds : n / 10 / 10 ≡ n / 100
    hundreds = omega arith

    tens : n / 10 % 10 ≡ n % 100 / 10
    tens = omega arith

    ones : n % 10 ≡ n % 100 % 10
    ones = omega arith

-- a number below 10 to the k has at most k digits
length_digits : (k n : ℕ) → n < 10 ^ suc k → length (digits n) ≤ suc k
length_digits zero n h = omega (arith, ap length (digits-few n (omega arith)))
length_digits (suc k) n h =
    two (ltb n 10) (length (digits n) ≤ suc (suc k))
    (λ e. omega (arith, ap length (digits-few n (ltb-true n 10 e))))
    (λ e.
    omega (arith, ap length (digits-many n (ltb-false n 10 e)), length-append (digits (n / 10)) ((48 + n % 10) ∷ []), length_digits k (n / 10) (omega arith)))

pub digits-short : (n : ℕ) → n < 2 ^ 64 → length (digits n) ≤ 20
digits-short n h = length_digits 19 n (omega arith)

-- ---- as they are stored

pub stored_few : (s t : List ℕ) (at n r : ℕ) → n < 10 → Stored s at ((48 + n) ∷ []) t r → Stored s at (digits n) t r
stored_few s t at n r h = subst (λ (xs : List ℕ). Stored s at xs t r) (sym (digits-few n h))

pub stored_many : (s t u : List ℕ) (at a n r : ℕ) → 10 ≤ n → n < 2 ^ 64
    → Stored s at (digits (n / 10)) t a → Stored t a ((48 + n % 10) ∷ []) u r → Stored s at (digits n) u r × (r ≤ at + 20)
stored_many s t u at a n r h fits front back =
    let all : Stored s at (digits n) u r =
    subst (λ (xs : List ℕ). Stored s at xs u r) (sym (digits-many n h)) (stored_append s t u at a r (digits (n / 10)) ((48 + n % 10) ∷ []) front back)
    in
    (all, omega (arith, all.1, digits-short n fits))

-- ---- two digits at a time

-- both digits as one number of two bytes
abbrev both : ℕ → ℕ
both n = n / 10 + 256 * (n % 10) + 12336

pub pair-bytes : (n : ℕ) → n < 100 → bytes_of 2 (both n) ≡ pair n
unfolding table
pair-bytes n fits =
    let low : byte_of (both n) 0 ≡ 48 + n / 10 = byte_of_zero (both n) ∙ omega arith in
    let high : byte_of (both n) 1 ≡ 48 + n % 10 = byte_of_suc (both n) 0 ∙ byte_of_zero (both n / 256) ∙ omega arith in
    λ i. low i ∷ high i ∷ []

pub stored_pair : (s t : List ℕ) (at n r : ℕ) → 10 ≤ n → n < 100 → Stored s at (pair n) t r → Stored s at (digits n) t r
stored_pair s t at n r h fits = subst (λ (xs : List ℕ). Stored s at xs t r) (sym (digits-pair n h fits))

pub stored_hundreds : (s t u : List ℕ) (at a n r : ℕ) → 100 ≤ n
    → Stored s at (digits (n / 100)) t a → Stored t a (pair (n % 100)) u r → Stored s at (digits n) u r
stored_hundreds s t u at a n r h front back =
    subst (λ (xs : List ℕ). Stored s at xs u r) (sym (digits-hundreds n h))
    (stored_append s t u at a r (digits (n / 100)) (pair (n % 100)) front back)
