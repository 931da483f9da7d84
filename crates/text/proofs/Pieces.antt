-- Bytes stored from a position on, one piece after another.
-- Assumes nothing.
use mathlib.Core.Path.{◌≡◌, refl, sym, ap, ◌∙◌}
use mathlib.Core.List.{List, [], ◌∷◌, ◌++◌}
use Prim.Native.Nat.{ℕ, suc, ◌+◌, ◌*◌, ◌/◌, ◌%◌, ◌≤◌, ◌<◌}
use native.Mathlib.Nat.{le_of_lt, mod-eq_of_lt}
use native.Mathlib.Numerals.{add-one}
use native.Mathlib.Omega.{arith}
use lib.ListN.{length, get_or, set, take, length-append}
use lib.Seq.{sets, take-suc, take_all, length-take-le}
use Rattle.number.specs.Bytes.{table, bytes_of}
use Rattle.number.proofs.Bytes.{byte_of_zero}
use Rattle.number.proofs.Slice.{sets-joined}
use Rattle.text.specs.Lines.{hex_digit, hex}

-- a byte, as number stores it
pub byte_stored : (s t : List ℕ) (at b : ℕ) → b < 256 → t ≡ sets s at (bytes_of 1 b) → t ≡ set s at b
unfolding table
byte_stored s t at b h e = e ∙ ap (set s at) (byte_of_zero b ∙ mod-eq_of_lt h)

-- t is s with xs stored from `at` on, and r is the position after them
abbrev pub Stored : List ℕ → ℕ → List ℕ → List ℕ → ℕ → Type 0
Stored s at xs t r = (t ≡ sets s at xs) × (r ≡ at + length xs)

pub stored_append : (s t u : List ℕ) (at a b : ℕ) (xs ys : List ℕ) → Stored s at xs t a → Stored t a ys u b → Stored s at (xs ++ ys) u b
stored_append s t u at a b xs ys (e, l) (f, m) = (
  sets-joined s t u at (length xs) xs ys refl e (f ∙ ap (λ (k : ℕ). sets t k ys) l),
  omega (arith, l, m, length-append xs ys),
)

-- one more byte of a word
take_more : (word : List ℕ) (i : ℕ) → i < length word → take i word ++ (get_or word i 0 ∷ []) ≡ take (i + 1) word
take_more word i h = sym (take-suc word i 0 h) ∙ ap (λ (k : ℕ). take k word) (sym (add-one i))

pub word_more : (s t u : List ℕ) (at i b : ℕ) (word : List ℕ) → i < length word → b ≡ get_or word i 0 → t ≡ sets s at (take i word)
    → u ≡ set t (at + i) b → u ≡ sets s at (take (i + 1) word)
word_more s t u at i b word h byte e f =
    sets-joined s t u at i (take i word) (get_or word i 0 ∷ []) (length-take-le i word (le_of_lt h)) e (f ∙ ap (set t (at + i)) byte)
    ∙ ap (sets s at) (take_more word i h)

-- the whole of it
pub word-all : (s t : List ℕ) (at i : ℕ) (word : List ℕ) → length word ≤ i → t ≡ sets s at (take i word) → t ≡ sets s at word
word-all s t at i word h e = e ∙ ap (sets s at) (take_all i word h)

-- ---- hex

pub two-stored : (s t u : List ℕ) (at x y b : ℕ) → x ≡ hex_digit (b / 16) → y ≡ hex_digit (b % 16) → t ≡ set s at x → u ≡ set t (at + 1) y
    → u ≡ sets s at (hex_digit (b / 16) ∷ hex_digit (b % 16) ∷ [])
two-stored s t u at x y b high low e f =
    f ∙ (λ i. set (e i) (add-one at i) (low i)) ∙ ap (λ (d : ℕ). set (set s at d) (suc at) (hex_digit (b % 16))) high

hex-append : (xs ys : List ℕ) → hex (xs ++ ys) ≡ hex xs ++ hex ys
unfolding hex
hex-append [] ys = refl
hex-append (x ∷ xs) ys = ap (λ (r : List ℕ). hex_digit (x / 16) ∷ hex_digit (x % 16) ∷ r) (hex-append xs ys)

pub length-hex : (xs : List ℕ) → length (hex xs) ≡ 2 * length xs
unfolding hex
length-hex [] = refl
length-hex (x ∷ xs) = omega (arith, length-hex xs)

-- one more byte in hex
pub hex-more : (s t u : List ℕ) (at i b : ℕ) (bytes : List ℕ) → i < length bytes → b ≡ get_or bytes i 0 → t ≡ sets s at (hex (take i bytes))
    → u ≡ sets t (at + 2 * i) (hex_digit (b / 16) ∷ hex_digit (b % 16) ∷ []) → u ≡ sets s at (hex (take (i + 1) bytes))
unfolding hex
hex-more s t u at i b bytes h byte e f =
    let front : length (hex (take i bytes)) ≡ 2 * i = omega (arith, length-hex (take i bytes), length-take-le i bytes (le_of_lt h)) in
    sets-joined s t u at (2 * i) (hex (take i bytes)) (hex (get_or bytes i 0 ∷ [])) front e
    (f ∙ ap (λ (d : ℕ). sets t (at + 2 * i) (hex (d ∷ []))) byte)
    ∙ ap (sets s at) (sym (hex-append (take i bytes) (get_or bytes i 0 ∷ [])) ∙ ap hex (take_more bytes i h))

pub hex-none : (s : List ℕ) (at : ℕ) (bytes : List ℕ) → s ≡ sets s at (hex (take 0 bytes))
unfolding hex
hex-none s at bytes = refl

pub hex-all : (s t : List ℕ) (at i : ℕ) (bytes : List ℕ) → length bytes ≤ 64 → length bytes ≤ i → t ≡ sets s at (hex (take i bytes))
    → Stored s at (hex bytes) t (at + 2 * length bytes) × (at + 2 * length bytes ≤ at + 128)
hex-all s t at i bytes few h e =
    ((e ∙ ap (λ (r : List ℕ). sets s at (hex r)) (take_all i bytes h), omega (arith, length-hex bytes)), omega arith)

-- ---- a word and a number

pub stored_counted : (s t u : List ℕ) (at a b : ℕ) (word number : List ℕ) → Stored s at word t a → Stored t a number u b → b ≤ a + 20
    → Stored s at (word ++ number) u b × (b ≤ at + length word + 20)
stored_counted s t u at a b word number front back short = (stored_append s t u at a b word number front back, omega (arith, front.1))
