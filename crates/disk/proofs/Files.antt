-- Files by their heads: what is told before the first run, and the refusals.
-- Assumes nothing.
use mathlib.Core.Path.{◌≡◌, sym, subst, ◌∙◌}
use mathlib.Core.Bool.{Bool, true, false}
use mathlib.Core.List.{List}
use Prim.Native.Nat.{ℕ, ◌≤◌}
use native.Mathlib.Omega.{arith}
use lib.ListN.{length}
use Rattle.number.specs.Bytes.{byte_at, number}
use Rattle.isa.specs.State.{state_length}
use Rattle.file.specs.declared.FileRefusal.{FileRefusal}
use Rattle.file.specs.declared.FileRefusal.TheVariants.{Contents}
use Rattle.std.specs.Prelude.{Result, Ok, Err}
use Rattle.file.specs.File.{bytes_from, has_checkpoint, most_steps, start_of, head_as, closed_as, loaded_start, loaded_saved}
use Rattle.file.proofs.Contents.{length_two, length_three}
use Rattle.file.proofs.States.{load-whole}
use Rattle.file.proofs.Heads.{head-base, head-most}
use Rattle.trace.specs.Reading.{Told}
use Rattle.trace.proofs.Closed.{said-head, told-start, said-cut, said-closed, consumed-within, told-again}
use Rattle.disk.specs.Got.{HeadOf, Looked, CutShort}
use Rattle.disk.specs.Shown.{Alone}

-- a head that is refused
pub alone-head : (head : List ℕ) (opened : Result ℕ FileRefusal) (r : FileRefusal) → opened ≡ head_as head → opened ≡ Err r → Alone head r
alone-head head opened r e f = said-head head r (sym e ∙ f)

-- a head that is accepted
pub opened_most : (head : List ℕ) (opened : Result ℕ FileRefusal) (n : ℕ) → opened ≡ head_as head → opened ≡ Ok n → n ≤ most_steps
opened_most head opened n e f = head-most head n (sym e ∙ f)

module _ (head : List ℕ) (n : ℕ) (opened : head_as head ≡ Ok n) (read : HeadOf head) where
  -- ---- two sections

  module _ (plain : has_checkpoint head ≡ false) where
    size-two : length head ≡ 5148
    size-two = omega (arith, read.1 plain, head-base head n opened, length_two head plain)

    pub start-told : (state state' : List ℕ) → length state ≡ state_length → state' ≡ loaded_start head state → Told head n 0 state' 0
    start-told state state' whole e =
        subst (λ (s : List ℕ). Told head n 0 s 0) (load-whole (start_of head) state whole ∙ sym e) (told-start head n opened plain size-two)

  -- ---- three

  module _ (three : has_checkpoint head ≡ true) where
    size-three : length head ≡ 5160
    size-three = omega (arith, read.0, head-base head n opened, length_three head three)

    pub alone-cut : CutShort n → Alone head Contents
    alone-cut cut = said-cut head n opened three size-three cut.bytes cut.less

    module _ (last : List ℕ) (clear : Bool) (looked : Looked n clear) where
      pub alone-closed : (closed : Result ℕ FileRefusal) (r : FileRefusal) → closed ≡ closed_as last n clear → closed ≡ Err r → Alone head r
      alone-closed closed r e f =
          said-closed head n opened three size-three looked.bytes last looked.whole clear looked.told r (sym e ∙ f)

      pub closed-told : (closed : Result ℕ FileRefusal) (m : ℕ) → closed ≡ closed_as last n clear → closed ≡ Ok m
          → Told head n (number 4 (byte_at last) 0) (bytes_from last 4 state_length) 0 × (number 4 (byte_at last) 0 ≤ n)
      closed-told closed m e f =
          let right = sym e ∙ f in (
            told-again head n opened three size-three looked.bytes last looked.whole clear looked.told m right,
            consumed-within head n opened three size-three looked.bytes last looked.whole clear looked.told m right,
          )

-- the checkpoint's state, loaded
pub saved_told : (head last state state' : List ℕ) (n consumed k : ℕ) → consumed ≡ k → length state ≡ state_length → state' ≡ loaded_saved last state
    → Told head n k (bytes_from last 4 state_length) 0 → Told head n consumed state' 0
saved_told head last state state' n consumed k e whole f told =
    subst (λ (s : List ℕ). Told head n consumed s 0) (load-whole (bytes_from last 4 state_length) state whole ∙ sym f)
    (subst (λ (j : ℕ). Told head n j (bytes_from last 4 state_length) 0) (sym e) told)
