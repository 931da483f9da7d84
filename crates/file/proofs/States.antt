-- The starting state and the saved one, loaded; and a checkpoint stored; by the branches of the code.
-- Assumes nothing.
use mathlib.Core.Path.{◌≡◌, refl, sym, ap, ◌∙◌, subst}
use mathlib.Core.Bool.{Bool, true, false, cond, ◌&&◌}
use mathlib.Core.List.{List, ◌++◌}
use Prim.Native.Nat.{ℕ, ◌+◌, ◌^◌, ◌≤◌, ◌<◌}
use native.Mathlib.Nat.{zero-add}
use native.Mathlib.Omega.{arith}
use borrow.Author.Tests.{lt-ltb, le-ltb, eq-eqb, ne_eqb, le-leb, lt-leb}
use lib.Dec.{eqb, leb}
use lib.ListN.{length, take, drop, length-drop}
use lib.Seq.{sets, length-sets, length-take-le}
use borrow.Rule.Slice.PartMut.{put_mid}
use Rattle.number.specs.Bytes.{bytes_of, byte_of}
use Rattle.number.proofs.Tests.{pick_true, pick_false}
use Rattle.number.proofs.Bytes.{length-table}
use Rattle.number.proofs.Slice.{sets-joined}
use Rattle.isa.specs.State.{register_bytes, state_length}
use Rattle.isa.proofs.Registers.{length-state}
use Rattle.file.specs.File.{bytes_from, has_checkpoint, checkpoint_length, contents_length, steps_end, registers_in, start_of, saved_in, resumed_from}
use Rattle.file.specs.File.{loaded_start, loaded_saved, storable, checkpoint_in, stored_bytes}
use Rattle.file.proofs.Parts.{length_from, whole_from, put-sets, sets-whole}

-- two pieces stored from the front on
joined : (s xs ys : List ℕ) (n : ℕ) → length xs ≡ n → sets (sets s 0 xs) n ys ≡ sets s 0 (xs ++ ys)
joined s xs ys n e = sets-joined s (sets s 0 xs) _ 0 n xs ys e refl (ap (λ (k : ℕ). sets (sets s 0 xs) k ys) (sym (zero-add n)))

-- ---- the states of a file

module _ (file : List ℕ) where
  length-in : length (registers_in file) ≡ register_bytes
  length-in = length_from file (contents_length file) register_bytes

  pub length-start : length (start_of file) ≡ state_length
  length-start = length-state (registers_in file) 0 length-in

  pub resumed-saved : has_checkpoint file ≡ true → resumed_from file ≡ saved_in file
  resumed-saved = pick_true _ _

  pub resumed-start : has_checkpoint file ≡ false → resumed_from file ≡ start_of file
  resumed-start = pick_false _ _

-- ---- loading

-- a state of another length, and one that x is loaded over
module _ (x state : List ℕ) where
  pub load-whole : length state ≡ state_length → x ≡ cond (eqb (length state) state_length) x state
  load-whole e = sym (pick_true _ _ (eq-eqb (length state) state_length e))

-- the registers, from position p of the head on, and then a count of 0
pub load_start_lem : (head state : List ℕ) (p : ℕ) → length state ≡ state_length → p ≡ contents_length head
    → sets (sets state 0 (bytes_from head p 5120)) 5120 (bytes_of 8 0) ≡ loaded_start head state
load_start_lem head state p e f =
    ap (λ (q : ℕ). sets (sets state 0 (bytes_from head q 5120)) 5120 (bytes_of 8 0)) f
    ∙ joined state (registers_in head) (bytes_of 8 0) 5120 (length-in head) ∙ sets-whole (start_of head) state (length-start head ∙ sym e)
    ∙ load-whole (start_of head) state e

-- the same, where the registers are written to a part of the state
pub load-part : (head state out : List ℕ) (p : ℕ) → length state ≡ state_length → p ≡ contents_length head
    → out ≡ bytes_from head p (length (take 5120 state)) → sets (out ++ drop 5120 state) 5120 (bytes_of 8 0) ≡ loaded_start head state
load-part head state out p e f g =
    let size : length (take 5120 state) ≡ 5120 = length-take-le 5120 state (omega (arith, e)) in
    let there : out ≡ bytes_from head p 5120 = g ∙ ap (bytes_from head p) size in
    let long : length out ≡ 5120 = ap length there ∙ length_from head p 5120 in
    ap (λ (s : List ℕ). sets s 5120 (bytes_of 8 0)) (put-sets state out 0 5120 long (omega (arith, e)) ∙ ap (sets state 0) there)
    ∙ load_start_lem head state p e f

pub load_saved_lem : (last state : List ℕ) → length state ≡ state_length → sets state 0 (bytes_from last 4 5128) ≡ loaded_saved last state
load_saved_lem last state e =
    sets-whole (bytes_from last 4 state_length) state (length_from last 4 state_length ∙ sym e) ∙ load-whole (bytes_from last 4 state_length) state e

-- ---- storing a checkpoint

module _ (out state : List ℕ) (consumed : ℕ) where
  abbrev pub Stores : List ℕ → ℕ → Type 0
  Stores out' r = (out' ≡ checkpoint_in out consumed state) × (r ≡ stored_bytes out consumed state)

  pub store-whole : consumed < 2 ^ 32 → length state ≡ state_length → checkpoint_length ≤ length out → (out' : List ℕ)
      → out' ≡ sets out 0 (bytes_of 4 consumed) → Stores (put_mid 4 5128 out' state) 5132
  store-whole h e l out' f =
      let yes : storable consumed state out ≡ true =
      (λ t. lt-ltb consumed (2 ^ 32) h t && eq-eqb (length state) state_length e t && le-leb checkpoint_length (length out) l t) in
      let long : length out' ≡ length out = ap length f ∙ length-sets out 0 (bytes_of 4 consumed) in (
        put-sets out' state 4 5128 e (omega (arith, l, long)) ∙ ap (λ (o : List ℕ). sets o 4 state) f
            ∙ joined out (bytes_of 4 consumed) state 4 (length-table (byte_of consumed) 0 4) ∙ sym (pick_true _ _ yes),
        sym (pick_true _ _ yes),
      )

  -- the same, where the state is written to a part of the buffer
  pub store-part : consumed < 2 ^ 32 → length state ≡ state_length → checkpoint_length ≤ length out → (out' part : List ℕ)
      → out' ≡ sets out 0 (bytes_of 4 consumed) → part ≡ bytes_from state 0 (length (take 5128 (drop 4 out'))) → Stores (put_mid 4 5128 out' part) 5132
  store-part h e l out' part f g =
      let long : length out' ≡ length out = ap length f ∙ length-sets out 0 (bytes_of 4 consumed) in
      let size : length (take 5128 (drop 4 out')) ≡ 5128 = length-take-le 5128 (drop 4 out') (omega (arith, length-drop 4 out', l, long)) in
      let there : part ≡ state = g ∙ ap (bytes_from state 0) size ∙ whole_from state 5128 e in
      subst (λ (s : List ℕ). Stores (put_mid 4 5128 out' s) 5132) (sym there) (store-whole h e l out' f)
