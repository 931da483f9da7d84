-- How long a line is at most, for a caller that keeps its position in bounds.
-- Assumes nothing.
use mathlib.Core.List.{List, ◌++◌}
use Prim.Native.Nat.{ℕ, ◌+◌, ◌*◌, ◌^◌, ◌≤◌, ◌<◌}
use native.Mathlib.Omega.{arith}
use lib.ListN.{length, length-append}
use Rattle.isa.specs.declared.Answer.{Answer}
use Rattle.isa.specs.declared.Answer.TheVariants.{Done, NoOp, Refused}
use Rattle.isa.specs.Answers.{reason_number, refusal_number, host_number}
use Rattle.text.specs.Lines.{digits, hex, space, newline, step_word, done_word, no_op_word, refused_word, z_word, steps_word, file_refused_word}
use Rattle.text.specs.Lines.{answer_text, step_line, z_line, steps_line, refused_line}
use Rattle.text.proofs.Pieces.{length-hex}
use Rattle.text.proofs.Decimal.{digits-short}

counted-short : (word : List ℕ) (n : ℕ) → n < 2 ^ 64 → length (word ++ digits n) ≤ length word + 20
counted-short word n h = omega (arith, length-append word (digits n), digits-short n h)

pub answer_short : (a : Answer) → host_number a < 2 ^ 64 → length (answer_text a) ≤ 28
unfolding answer_text
answer_short (Done bytes) h = omega (arith, counted-short done_word bytes h)
answer_short (NoOp r) h = omega (arith, counted-short no_op_word (reason_number r) (omega (arith, h)))
answer_short (Refused r) h = omega (arith, counted-short refused_word (refusal_number r) (omega (arith, h)))

pub step_short : (place : ℕ) (a : Answer) → place < 2 ^ 64 → host_number a < 2 ^ 64 → length (step_line place a) ≤ 55
unfolding step_line
step_short place a h k =
    omega (
      arith,
      counted-short step_word place h,
      length-append (step_word ++ digits place) space,
      length-append (step_word ++ digits place ++ space) (answer_text a),
      answer_short a k,
      length-append (step_word ++ digits place ++ space ++ answer_text a) newline,
    )

pub row-short : (row : ℕ) (bytes : List ℕ) → row < 2 ^ 64 → length (z_line row bytes) ≤ 2 * length bytes + 24
unfolding z_line
row-short row bytes h =
    omega (
      arith,
      counted-short z_word row h,
      length-append (z_word ++ digits row) space,
      length-append (z_word ++ digits row ++ space) (hex bytes),
      length-hex bytes,
      length-append (z_word ++ digits row ++ space ++ hex bytes) newline,
    )

pub steps_short : (n : ℕ) → n < 2 ^ 64 → length (steps_line n) ≤ 27
unfolding steps_line
steps_short n h = omega (arith, counted-short steps_word n h, length-append (steps_word ++ digits n) newline)

pub file_short : (number : ℕ) → number < 2 ^ 64 → length (refused_line number) ≤ 34
unfolding refused_line
file_short number h = omega (arith, counted-short file_refused_word number h, length-append (file_refused_word ++ digits number) newline)
