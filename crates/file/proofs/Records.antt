-- Records in the bytes of steps: their bytes as numbers, the cursor, the list of calls, and the calls of a part.
-- Assumes nothing.
use mathlib.Core.Path.{◌≡◌, refl, sym, ap, ◌∙◌}
use mathlib.Core.Bool.{true, false, ◌&&◌}
use mathlib.Core.List.{List}
use mathlib.Core.Logic.{⊎_elim}
use Prim.Native.Nat.{ℕ, ◌+◌, ◌-◌, ◌*◌, ◌/◌, ◌≤◌, ◌<◌}
use native.Mathlib.Omega.{arith}
use borrow.Author.Tests.{lt-ltb, le-ltb}
use lib.Dec.{ltb}
use lib.ListN.{length, take, drop}
use lib.Seq.{drop_at}
use Rattle.number.specs.Bytes.{byte_at, number, table}
use Rattle.number.proofs.Tests.{pick_true, pick_false, lt_or_le}
use Rattle.number.proofs.Bytes.{length-table, table-add, table_same, number-moved}
use Rattle.isa.specs.Call.{Call, call}
use Rattle.std.specs.Prelude.{Some, None}
use Rattle.file.specs.File.{bytes_from, run_steps, run_of, records_in, call_at, calls, cursor, read_as}
use Rattle.file.proofs.Parts.{byte-from, part-between}

-- ---- a call as code holds it

pub record_same : {i g op : ℕ} {c : Call} → i ≡ c.instruction → g ≡ c.generation → op ≡ c.operand → call i g op ≡ c
record_same a b d = λ t. call (a t) (b t) (d t)

-- ---- the cursor

module _ (steps : List ℕ) (i n : ℕ) where
  -- a cursor at step i gives the call of step i, and the cursor at the next one
  pub read_step : i < n → i < run_steps → Some (call_at steps i, cursor (i + 1) n) ≡ read_as steps (cursor i n)
  read_step h l =
      let there : ltb i n && ltb i run_steps ≡ true = (λ t. lt-ltb i n h t && lt-ltb i run_steps l t) in
      sym (pick_true _ _ there)

-- ---- how many there are

module _ (n : ℕ) where
  pub run-few : n < run_steps → n ≡ run_of n
  run-few h = sym (pick_true _ _ (lt-ltb n run_steps h))

  pub run-most : run_steps ≤ n → run_steps ≡ run_of n
  run-most h = sym (pick_false _ _ (le-ltb n run_steps h))

  pub run-whole : n ≤ run_steps → run_of n ≡ n
  run-whole h =
      ⊎_elim
      (λ (l : n < run_steps). sym (run-few l))
      (λ (l : run_steps ≤ n). sym (run-most l) ∙ omega (arith, l, h))
      (lt_or_le n run_steps)

module _ (steps : List ℕ) where
  pub records-exact : (n : ℕ) → length steps ≡ 16 * n → n ≤ run_steps → records_in steps ≡ n
  records-exact n e h =
      let whole : length steps / 16 ≡ n = omega (arith, e) in
      ap run_of whole ∙ run-whole n h

  pub length-calls : (n : ℕ) → length (calls steps n) ≡ n
  length-calls n = length-table (call_at steps) 0 n

-- ---- the calls of a part

module _ (s : List ℕ) where
  -- the call whose bytes begin at q
  abbrev standing : ℕ → Call
  standing q = call (byte_at s q) (byte_at s (q + 1)) (number 8 (byte_at s) (q + 8))

  call_from : (p n i : ℕ) → i < n → call_at (bytes_from s p (16 * n)) i ≡ standing (p + 16 * i)
  call_from p n i h = λ t. call (here t) (next t) (operand t)
    where
      part : List ℕ
      part = bytes_from s p (16 * n)

      there : (j k : ℕ) → 16 * i + j + k < 16 * n → byte_at part (16 * i + j + k) ≡ byte_at s (p + 16 * i + j + k)
      there j k l = byte-from s p (16 * n) (16 * i + j + k) l ∙ ap (byte_at s) (omega arith)

      here : byte_at part (16 * i) ≡ byte_at s (p + 16 * i)
      here = byte-from s p (16 * n) (16 * i) (omega (arith, h))

      next : byte_at part (16 * i + 1) ≡ byte_at s (p + 16 * i + 1)
      next = byte-from s p (16 * n) (16 * i + 1) (omega (arith, h)) ∙ ap (byte_at s) (omega arith)

      operand : number 8 (byte_at part) (16 * i + 8) ≡ number 8 (byte_at s) (p + 16 * i + 8)
      operand = number-moved 8 (byte_at part) (byte_at s) (16 * i + 8) (p + 16 * i + 8) (λ k l. there 8 k (omega (arith, h, l)))

  -- the call of a step's own bytes, as a part
  pub call-part : (i : ℕ) → 16 * i + 16 ≤ length s → call_at (take (16 * i + 16 - 16 * i) (drop (16 * i) s)) 0 ≡ call_at s i
  call-part i h =
      let place : 16 * i + 16 * 0 ≡ 16 * i = omega arith in
      ap (λ (part : List ℕ). call_at part 0) (part-between s (16 * i) (16 * i + 16) 16 refl h)
      ∙ call_from (16 * i) 1 0 (omega arith) ∙ ap standing place

  -- those from step k on are the calls of the bytes from there on
  pub calls-rest : (p n k : ℕ) → k ≤ n → calls (bytes_from s (p + 16 * k) (16 * (n - k))) (n - k) ≡ drop k (calls (bytes_from s p (16 * n)) n)
  calls-rest p n k h =
      table_same (call_at (bytes_from s (p + 16 * k) (16 * m))) (λ i. call_at all (k + i)) m moved
      ∙ sym (drop_at (calls all k) (table (λ i. call_at all (k + i)) 0 m) k (length-table (call_at all) 0 k))
      ∙ ap (drop k) (sym (table-add (call_at all) k m) ∙ ap (calls all) (omega (arith, h)))
    where
      m : ℕ
      m = n - k

      all : List ℕ
      all = bytes_from s p (16 * n)

      moved : (i : ℕ) → i < m → call_at (bytes_from s (p + 16 * k) (16 * m)) i ≡ call_at all (k + i)
      moved i l =
          let place : p + 16 * k + 16 * i ≡ p + 16 * (k + i) = omega arith in
          call_from (p + 16 * k) m i l ∙ ap standing place ∙ sym (call_from p n (k + i) (omega (arith, h, l)))
