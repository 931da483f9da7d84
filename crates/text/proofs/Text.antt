-- An answer's text, and the lines, as their pieces are stored.
-- Assumes nothing.
use mathlib.Core.Path.{◌≡◌, refl, sym, ap, subst, ◌∙◌}
use mathlib.Core.List.{List, ◌++◌, append_assoc}
use Prim.Native.Nat.{ℕ, ◌+◌, ◌≤◌}
use native.Mathlib.Omega.{arith}
use lib.ListN.{length}
use Rattle.isa.specs.declared.Reason.{Reason}
use Rattle.isa.specs.declared.Refusal.{Refusal}
use Rattle.isa.specs.declared.Answer.{Answer}
use Rattle.isa.specs.declared.Answer.TheVariants.{Done, NoOp, Refused}
use Rattle.isa.specs.Answers.{reason_number, refusal_number}
use Rattle.text.specs.Lines.{digits, hex, space, newline, step_word, done_word, no_op_word, refused_word, z_word, steps_word, file_refused_word}
use Rattle.text.specs.Lines.{answer_text, step_line, z_line, steps_line, refused_line}
use Rattle.text.proofs.Pieces.{Stored, stored_append}

-- ---- answers

module _ (s t u : List ℕ) (at a r : ℕ) where
  -- the text of an answer behind a space, and its length at most
  abbrev Answered : Answer → Type 0
  Answered answer = Stored s at (space ++ answer_text answer) u r × (r ≤ at + 29)

  -- a word that is stored with the space before it, and then a number
  answer-stored : (answer b : Answer) (word : List ℕ) (n k : ℕ) → answer ≡ b → n ≡ k → space ++ answer_text b ≡ word ++ digits k → length word ≤ 9
      → Stored s at word t a → Stored t a (digits n) u r → r ≤ a + 20 → Answered answer
  answer-stored answer b word n k e number text few first last short =
      let same : word ++ digits n ≡ space ++ answer_text answer =
      ap (λ (m : ℕ). word ++ digits m) number ∙ sym (ap (λ (x : Answer). space ++ answer_text x) e ∙ text)
      in
      (subst (λ (xs : List ℕ). Stored s at xs u r) same (stored_append s t u at a r word (digits n) first last), omega (arith, first.1))

  pub done-stored : (answer : Answer) (bytes : ℕ) → answer ≡ Done bytes
      → Stored s at (space ++ done_word) t a → Stored t a (digits bytes) u r → r ≤ a + 20 → Answered answer
  unfolding answer_text
  done-stored answer bytes e = answer-stored answer (Done bytes) (space ++ done_word) bytes bytes e refl refl (omega arith)

  pub no-op-stored : (answer : Answer) (reason : Reason) (n : ℕ) → answer ≡ NoOp reason → n ≡ reason_number reason
      → Stored s at (space ++ no_op_word) t a → Stored t a (digits n) u r → r ≤ a + 20 → Answered answer
  unfolding answer_text
  no-op-stored answer reason n e number =
      answer-stored answer (NoOp reason) (space ++ no_op_word) n (reason_number reason) e number refl (omega arith)

  pub refused-stored : (answer : Answer) (refusal : Refusal) (n : ℕ) → answer ≡ Refused refusal → n ≡ refusal_number refusal
      → Stored s at (space ++ refused_word) t a → Stored t a (digits n) u r → r ≤ a + 20 → Answered answer
  unfolding answer_text
  refused-stored answer refusal n e number =
      answer-stored answer (Refused refusal) (space ++ refused_word) n (refusal_number refusal) e number refl (omega arith)

-- ---- lines

-- a word and a number, and the end of the line
line_of_2 : (s t u : List ℕ) (at a b : ℕ) (xs line : List ℕ) → line ≡ xs ++ newline → Stored s at xs t a → Stored t a newline u b → Stored s at line u b
line_of_2 s t u at a b xs line e front back =
    subst (λ (ys : List ℕ). Stored s at ys u b) (sym e) (stored_append s t u at a b xs newline front back)

pub steps_stored : (s t u : List ℕ) (at a b n : ℕ) → Stored s at (steps_word ++ digits n) t a → Stored t a newline u b → Stored s at (steps_line n) u b
unfolding steps_line
steps_stored s t u at a b n = line_of_2 s t u at a b (steps_word ++ digits n) (steps_line n) refl

pub file_stored : (s t u : List ℕ) (at a b n : ℕ) → Stored s at (file_refused_word ++ digits n) t a → Stored t a newline u b → Stored s at (refused_line n) u b
unfolding refused_line
file_stored s t u at a b n = line_of_2 s t u at a b (file_refused_word ++ digits n) (refused_line n) refl

pub step_stored : (s t u v w : List ℕ) (at a b c d place : ℕ) (answer : Answer)
    → Stored s at step_word t a → Stored t a (digits place) u b → Stored u b (space ++ answer_text answer) v c → Stored v c newline w d
    → Stored s at (step_line place answer) w d
unfolding step_line
step_stored s t u v w at a b c d place answer word number text =
    let front : List ℕ = step_word ++ digits place in
    line_of_2 s v w at c d (front ++ (space ++ answer_text answer)) (step_line place answer)
    (ap (λ (xs : List ℕ). xs ++ newline) (append_assoc front space (answer_text answer)))
    (stored_append s u v at b c front (space ++ answer_text answer) (stored_append s t u at a b step_word (digits place) word number) text)

-- the line of an answer that is done
pub done-line : (s t : List ℕ) (at r place bytes : ℕ) (answer : Answer) → answer ≡ Done bytes
    → Stored s at (step_line place (Done bytes)) t r → Stored s at (step_line place answer) t r
done-line s t at r place bytes answer e = subst (λ (x : Answer). Stored s at (step_line place x) t r) (sym e)

-- a word and a number, a space, the bytes, and the end of the line
pub row-stored : (s t u v w : List ℕ) (at a b c d row : ℕ) (bytes : List ℕ)
    → Stored s at (z_word ++ digits row) t a → Stored t a space u b → Stored u b (hex bytes) v c → Stored v c newline w d
    → Stored s at (z_line row bytes) w d
unfolding z_line
row-stored s t u v w at a b c d row bytes first gap more =
    let front : List ℕ = z_word ++ digits row in
    line_of_2 s v w at c d (front ++ space ++ hex bytes) (z_line row bytes) refl
    (stored_append s u v at b c (front ++ space) (hex bytes) (stored_append s t u at a b front space first gap) more)
