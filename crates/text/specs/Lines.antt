-- The lines that a trace prints, as ASCII bytes.
-- Assumes nothing.
use Rattle.std.specs.Prelude.{cond, List, [], ◌∷◌, ◌++◌, ℕ, zero, suc, ◌+◌, ◌-◌, ◌/◌, ◌%◌, ltb}
use Rattle.isa.specs.declared.Answer.{Answer}
use Rattle.isa.specs.declared.Answer.TheVariants.{Done, NoOp, Refused}
use Rattle.isa.specs.Answers.{reason_number, refusal_number}

-- ---- numbers

-- the decimal digits of n, or the last k of them: those of n / 10, where there are any, and then the last one
abbrev pub last_digits : ℕ → ℕ → List ℕ
last_digits zero n = []
last_digits (suc k) n = let front = last_digits k (n / 10) in cond (ltb n 10) [] front ++ ((48 + n % 10) ∷ [])

-- all of them, the most significant first: a number n has no more than n + 1
unfoldable pub digits : ℕ → List ℕ
digits n = last_digits (suc n) n

-- 0 to 9, then a to f
abbrev pub hex_digit : ℕ → ℕ
hex_digit d = cond (ltb d 10) (48 + d) (97 + (d - 10))

-- two digits for each byte, the high one first
unfoldable pub hex : List ℕ → List ℕ
hex [] = []
hex (b ∷ bs) = hex_digit (b / 16) ∷ hex_digit (b % 16) ∷ hex bs

-- ---- words, each with the space behind it

abbrev pub space : List ℕ
space = 32 ∷ []

abbrev pub newline : List ℕ
newline = 10 ∷ []

-- "step "
abbrev pub step_word : List ℕ
step_word = 115 ∷ 116 ∷ 101 ∷ 112 ∷ 32 ∷ []

-- "done "
abbrev pub done_word : List ℕ
done_word = 100 ∷ 111 ∷ 110 ∷ 101 ∷ 32 ∷ []

-- "no-op "
abbrev pub no_op_word : List ℕ
no_op_word = 110 ∷ 111 ∷ 45 ∷ 111 ∷ 112 ∷ 32 ∷ []

-- "refused "
abbrev pub refused_word : List ℕ
refused_word = 114 ∷ 101 ∷ 102 ∷ 117 ∷ 115 ∷ 101 ∷ 100 ∷ 32 ∷ []

-- "z "
abbrev pub z_word : List ℕ
z_word = 122 ∷ 32 ∷ []

-- "steps "
abbrev pub steps_word : List ℕ
steps_word = 115 ∷ 116 ∷ 101 ∷ 112 ∷ 115 ∷ 32 ∷ []

-- "file refused "
abbrev pub file_refused_word : List ℕ
file_refused_word = 102 ∷ 105 ∷ 108 ∷ 101 ∷ 32 ∷ 114 ∷ 101 ∷ 102 ∷ 117 ∷ 115 ∷ 101 ∷ 100 ∷ 32 ∷ []

-- ---- lines

-- "done 64", "no-op 1", "refused 4"
unfoldable pub answer_text : Answer → List ℕ
answer_text (Done bytes) = done_word ++ digits bytes
answer_text (NoOp r) = no_op_word ++ digits (reason_number r)
answer_text (Refused r) = refused_word ++ digits (refusal_number r)

-- "step 0 done 64"
unfoldable pub step_line : ℕ → Answer → List ℕ
step_line place answer = step_word ++ digits place ++ space ++ answer_text answer ++ newline

-- "z 0 0600..": a row and its bytes
unfoldable pub z_line : ℕ → List ℕ → List ℕ
z_line row bytes = z_word ++ digits row ++ space ++ hex bytes ++ newline

-- "steps 2"
unfoldable pub steps_line : ℕ → List ℕ
steps_line n = steps_word ++ digits n ++ newline

-- "file refused 6"
unfoldable pub refused_line : ℕ → List ℕ
refused_line number = file_refused_word ++ digits number ++ newline
