-- A file read in pieces: its head, its steps, and the bytes behind them.
-- Assumes nothing.
use mathlib.Core.Path.{◌≡◌, refl, sym, ap, ◌∙◌}
use mathlib.Core.Bool.{Bool, true, false}
use mathlib.Core.List.{List, [], ◌++◌}
use mathlib.Core.Logic.{⊎_elim}
use Prim.Native.Nat.{ℕ, ◌+◌, ◌-◌, ◌*◌, ◌≤◌, ◌<◌}
use native.Mathlib.Omega.{arith}
use borrow.Author.Tests.{eq-eqb, eqb-true, eqb-false, le-leb, lt-leb}
use lib.Dec.{eqb, leb}
use lib.ListN.{length, length-append}
use lib.Seq.{take-append_seam, take-length, drop_at, get_or-append-add}
use Rattle.number.specs.Bytes.{byte_at, number}
use Rattle.number.proofs.Tests.{pick_true, pick_false, two, is_false, true_false, lt_or_le}
use Rattle.number.proofs.Bytes.{number-moved, table_same}
use Rattle.isa.specs.State.{state_length, state_of}
use Rattle.file.specs.declared.FileRefusal.{FileRefusal}
use Rattle.file.specs.declared.FileRefusal.TheVariants.{Contents}
use Rattle.std.specs.Prelude.{Ok, Err}
use Rattle.file.specs.File.{file_refusal_number, bytes_from, has_checkpoint, checkpoint_length, contents_length, steps_base, step_count, steps_end, steps_in}
use Rattle.file.specs.File.{registers_in, start_of, consumed_in, resumed_from, sections_right, checkpoint_right, contents_right, table_right}
use Rattle.file.specs.File.{paddings_clear, head_as, opened_as, closed_as}
use Rattle.file.proofs.Contents.{length_two, length_three, consumed-some, by-consumed, by-closed, other-checkpoint, table-other, table-three}
use Rattle.file.proofs.Contents.{contents-three, contents-end, contents-table}
use Rattle.file.proofs.States.{resumed-saved}
use Rattle.file.proofs.Accepted.{not_both, opened-short, opened-contents, opened-padding, opened-steps, accepted-count, accepted-consumed}
use Rattle.file.proofs.Heads.{head_short, head-contents, head-cut, head-steps, head-table, head-base, head-count}
use Rattle.file.proofs.Heads.{close_other, close-consumed, close-padding, close-steps}
use Rattle.text.specs.Lines.{refused_line}
use Rattle.trace.specs.Trace.{text_read, streamed_text, text_of}
use Rattle.trace.specs.Reading.{again_text, shown, Follows, Says, Told}
use Rattle.trace.proofs.Stands.{Stands, stands-whole, stands-front, stands-back, stands_from}
use Rattle.trace.proofs.Begins.{same_head, long-head, has-alike, base-alike, steps_alike, table-alike, registers-alike, head-begins}
use Rattle.trace.proofs.Told.{said-alone}

-- ---- a refusal alone

module _ (file : List ℕ) (r : FileRefusal) where
  pub shown-three : has_checkpoint file ≡ true → opened_as file ≡ Err r → shown file [] ≡ refused_line (file_refusal_number r)
  shown-three b e = pick_true _ _ b ∙ ap (again_text file []) e

  shown-two : has_checkpoint file ≡ false → head_as file ≡ Err r → shown file [] ≡ refused_line (file_refusal_number r)
  unfolding text_of
  shown-two b e = pick_false _ _ b ∙ pick_false _ _ b ∙ ap (streamed_text file) e

-- a head that is refused is so refused as a file
module _ (head : List ℕ) (r : FileRefusal) (refused : head_as head ≡ Err r) where
  head_opened : opened_as head ≡ Err r
  head_opened =
      ⊎_elim
      (λ (h : length head < contents_length head). sym (opened-short head h) ∙ head_short head h ∙ refused)
      (λ (long : contents_length head ≤ length head).
      two (table_right head) (opened_as head ≡ Err r)
      (λ right.
      ⊎_elim
      (λ (h : length head < steps_base head).
      sym (opened-contents head long (is_false (contents_right head) (λ e. omega (arith, h, contents-end head e))))
      ∙ head-cut head long right h ∙ refused)
      (λ (h : steps_base head ≤ length head). absurd (not_both (sym refused) (sym (head-steps head long right h))))
      (lt_or_le (length head) (steps_base head)))
      (λ wrong.
      sym (opened-contents head long (is_false (contents_right head) (λ e. true_false (sym (contents-table head e) ∙ wrong))))
      ∙ head-contents head long wrong ∙ refused))
      (lt_or_le (length head) (contents_length head))

  pub said-head : Says head 0 (refused_line (file_refusal_number r)) × Follows head (0 + length (refused_line (file_refusal_number r))) []
  said-head =
      said-alone head head (refused_line (file_refusal_number r)) (take-length head)
      (two (has_checkpoint head) (shown head [] ≡ refused_line (file_refusal_number r))
      (λ b. shown-three head r b head_opened)
      (λ b. shown-two head r b refused))

-- ---- two sections: the head is accepted, and steps follow

module _ (head : List ℕ) (n : ℕ) (opened : head_as head ≡ Ok n) (plain : has_checkpoint head ≡ false) (size : length head ≡ 5148) where
  pub told-start : Told head n 0 (start_of head) 0
  unfolding text_of
  told-start rest =
      let file : List ℕ = head ++ rest in
      let same = same_head head rest n opened in
      let long = long-head head rest n opened in
      let none : has_checkpoint file ≡ false = has-alike file head (length head) same long ∙ plain in
      let base : length head ≡ steps_base file =
      omega (arith, size, base-alike file head (length head) same long, length_two head plain)
      in
      let registers = registers-alike file head (length head) same long (head-base head n opened) in
      let count : n ≡ n - 0 = omega arith in
      record {
        file = file;
        again = [];
        before = [];
        begins = take-append_seam head rest;
        there = pick_false _ _ none ∙ pick_false _ _ none ∙ ap (streamed_text file) (head-begins head rest n opened)
            ∙ (λ t. text_read (registers t) (count t) 0 (state_of (registers t) 0) (drop_at head rest (steps_base file) base t));
        place = refl;
      }

-- ---- three sections

module _ (head : List ℕ) (n : ℕ) (opened : head_as head ≡ Ok n) (three : has_checkpoint head ≡ true) (size : length head ≡ 5160) where
  -- with bytes behind the head
  module _ (rest : List ℕ) where
    abbrev longer : List ℕ
    longer = head ++ rest

    same : (p : ℕ) → p < length head → byte_at longer p ≡ byte_at head p
    same = same_head head rest n opened

    long : 28 ≤ length head
    long = long-head head rest n opened

    has : has_checkpoint longer ≡ true
    has = has-alike longer head (length head) same long ∙ three

    base : steps_base longer ≡ 5160
    base = omega (arith, base-alike longer head (length head) same long, length_three head three)

    counted : step_count longer ≡ n
    counted = steps_alike longer head (length head) same long ∙ head-count head n opened

    end : steps_end longer ≡ 5160 + 16 * n
    end = λ t. base t + 16 * counted t

    right : table_right longer ≡ true
    right = table-alike longer head (length head) same long (λ b. omega (arith, size)) ∙ head-table head n opened

    registers : registers_in longer ≡ registers_in head
    registers = registers-alike longer head (length head) same long (head-base head n opened)

    reaches : contents_length longer ≤ length longer
    reaches = omega (arith, base, size, length-append head rest)

  -- the steps cut short
  pub said-cut : (records : List ℕ) → length records < 16 * n
      → Says head 0 (refused_line (file_refusal_number Contents)) × Follows head (0 + length (refused_line (file_refusal_number Contents))) []
  said-cut records h =
      let file : List ℕ = head ++ records in
      let wrong : contents_right file ≡ false =
      is_false (contents_right file) (λ e. omega (arith, h, size, length-append head records, end records, contents-end file e))
      in
      said-alone head file (refused_line (file_refusal_number Contents)) (take-append_seam head records)
      (shown-three file Contents (has records) (sym (opened-contents file (reaches records) wrong)))

  -- and with the bytes behind them
  module _ (records last : List ℕ) (whole : length records ≡ 16 * n) where
    abbrev behind : List ℕ
    behind = records ++ last

    abbrev file : List ℕ
    file = head ++ behind

    abbrev consumed : ℕ
    consumed = number 4 (byte_at last) 0

    byte_last : (k : ℕ) → byte_at file (5160 + 16 * n + k) ≡ byte_at last k
    byte_last k =
        let place : 5160 + 16 * n + k ≡ length head + (length records + k) = omega (arith, size, whole) in
        ap (byte_at file) place ∙ get_or-append-add head behind (length records + k) 0 ∙ get_or-append-add records last k 0

    length-file : length file ≡ 5160 + 16 * n + length last
    length-file = omega (arith, length-append head behind, length-append records last, size, whole)

    told-consumed : consumed_in file ≡ consumed
    told-consumed =
        consumed-some file (has behind) ∙ ap (number 4 (byte_at file)) (end behind)
        ∙ number-moved 4 (byte_at file) (byte_at last) (5160 + 16 * n) 0
        (λ k l. byte_last k ∙ ap (byte_at last) (omega arith))

    saved : resumed_from file ≡ bytes_from last 4 state_length
    saved =
        resumed-saved file (has behind) ∙ ap (λ (p : ℕ). bytes_from file (p + 4) state_length) (end behind)
        ∙ table_same (λ k. byte_at file (5160 + 16 * n + 4 + k)) (λ k. byte_at last (4 + k)) state_length
        (λ k l.
        let place : 5160 + 16 * n + 4 + k ≡ 5160 + 16 * n + (4 + k) = omega arith in
        ap (byte_at file) place ∙ byte_last (4 + k))

    same-steps : steps_in file ≡ records
    same-steps =
        let back : Stands file 5160 behind = stands-back file 0 head behind 5160 (omega (arith, size)) (stands-whole file) in
        (λ t. bytes_from file (base behind t) (16 * counted behind t))
        ∙ stands_from file 5160 records (16 * n) whole (stands-front file 5160 records last back)

    paddings : paddings_clear (steps_in file) (step_count file) ≡ paddings_clear records n
    paddings = λ t. paddings_clear (same-steps t) (counted behind t)

    sections : sections_right file ≡ true
    sections =
        two (sections_right file) (sections_right file ≡ true) (λ t. t) (λ w. absurd (true_false (sym (right behind) ∙ sym (table-other file w))))

    within : leb (consumed_in file) (step_count file) ≡ checkpoint_right file
    within = by-consumed file (table-three file sections (has behind) ∙ right behind)

    -- by the bytes behind the steps the file is opened as it is as a whole
    module _ (clear : Bool) (told : clear ≡ paddings_clear records n) where
      sized : length last ≡ checkpoint_length → opened_as file ≡ closed_as last n clear
      sized e =
          ⊎_elim
          (λ (h : n < consumed).
          let other = sym within ∙ lt-leb (consumed_in file) (step_count file) (omega (arith, h, told-consumed, counted behind)) in
          sym (opened-contents file (reaches behind) (sym (other-checkpoint file sections (has behind) other))) ∙ close-consumed last n clear e h)
          (λ (h : consumed ≤ n).
          let checkpoint = sym within ∙ le-leb (consumed_in file) (step_count file) (omega (arith, h, told-consumed, counted behind)) in
          let contents : contents_right file ≡ true =
          sym (by-closed file sections (has behind) checkpoint)
          ∙ eq-eqb (length file) (steps_end file + checkpoint_length) (omega (arith, e, length-file, end behind))
          in
          two clear (opened_as file ≡ closed_as last n clear)
          (λ t.
          sym (opened-steps file (reaches behind) contents (paddings ∙ sym told ∙ t)) ∙ ap Ok (counted behind) ∙ close-steps last n clear e h t)
          (λ f. sym (opened-padding file (reaches behind) contents (paddings ∙ sym told ∙ f)) ∙ close-padding last n clear e h f))
          (lt_or_le n consumed)

      opened-closed : opened_as file ≡ closed_as last n clear
      opened-closed =
          two (eqb (length last) checkpoint_length) (opened_as file ≡ closed_as last n clear)
          (λ t. sized (eqb-true (length last) checkpoint_length t))
          (λ f.
          let other = eqb-false (length last) checkpoint_length f in
          let wrong : contents_right file ≡ false =
          is_false (contents_right file)
          (λ e. other (omega (arith, contents-three file e (has behind), length-file, end behind)))
          in sym (opened-contents file (reaches behind) wrong) ∙ close_other last n clear other)

      pub said-closed : (r : FileRefusal) → closed_as last n clear ≡ Err r
          → Says head 0 (refused_line (file_refusal_number r)) × Follows head (0 + length (refused_line (file_refusal_number r))) []
      said-closed r e =
          said-alone head file (refused_line (file_refusal_number r)) (take-append_seam head behind)
          (shown-three file r (has behind) (opened-closed ∙ e))

      module _ (m : ℕ) (closed : closed_as last n clear ≡ Ok m) where
        accepted : opened_as file ≡ Ok n
        accepted = opened-closed ∙ closed ∙ ap Ok (sym (accepted-count file m (opened-closed ∙ closed)) ∙ counted behind)

        pub consumed-within : consumed ≤ n
        consumed-within = omega (arith, told-consumed, accepted-consumed file n accepted)

        pub told-again : Told head n consumed (bytes_from last 4 state_length) 0
        told-again rest = record {
          file = file;
          again = rest;
          before = [];
          begins = take-append_seam head behind;
          there = pick_true _ _ (has behind) ∙ ap (again_text file rest) accepted
              ∙ (λ t. text_read (registers behind t) (n - told-consumed t) (told-consumed t) (saved t) rest);
          place = refl;
        }
