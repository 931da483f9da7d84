-- A swap across the cut: what would be run twice, and what never.
-- Assumes nothing.
use mathlib.Core.Path.{◌≡◌, refl, sym, ap, ◌∙◌}
use mathlib.Core.List.{List, [], ◌∷◌}
use mathlib.Core.Logic.{inl}
use Prim.Native.Nat.{ℕ, ◌<◌}
use native.Mathlib.Omega.{arith}
use lib.ListN.{length}
use Rattle.isa.specs.declared.Answer.{Answer}
use Rattle.isa.specs.declared.Answer.TheVariants.{Done, NoOp}
use Rattle.isa.specs.declared.Reason.TheVariants.{ReservedBits}
use Rattle.isa.specs.Operand.{bits}
use Rattle.isa.specs.State.{count_of, last_count, state_of}
use Rattle.isa.specs.Call.{Call}
use Rattle.isa.specs.Answers.{answer_of, own_answer, is_done}
use Rattle.isa.specs.Step.{answer_due, step_due}
use Rattle.isa.specs.Serials.{sum}
use Rattle.isa.proofs.Registers.{length-state, count-state}
use Rattle.isa.proofs.Step.{own-due, stepped-length, count-to}
use Rattle.isa.proofs.Guards as Guards
use Rattle.isa.proofs.Serials.{retry_refused}
use Rattle.trace.specs.Resume.{no_op, NoSwapAcross}

own-no_op : own_answer no_op ≡ NoOp ReservedBits
unfolding own_answer bits
own-no_op = refl

pub no_swap_across : NoSwapAcross
no_swap_across registers size = record {
  allowed = ((λ e. omega (arith, counted)), inl (Guards.idle s sum no_op whole room (ap is_done own-no_op)));
  outside = λ e. e;
  resumed = ap (λ (a : Answer). a ∷ []) (due no_op ∙ own-no_op);
  swapped = ap (λ (a : Answer). a ∷ []) (due sum ∙ sym (own-due sum s whole room) ∙ done);
}
  where
    s : List ℕ
    s = state_of registers 0

    whole : length s ≡ 5128
    whole = length-state registers 0 size

    counted : count_of s ≡ 0
    counted = count-state registers 0 size

    room : count_of s < last_count
    room = omega (arith, counted)

    done : answer_due s sum ≡ Done 64
    done = ap (answer_of s sum) counted ∙ (retry_refused registers size).first

    next : List ℕ
    next = step_due sum s

    due : (c : Call) → answer_due next c ≡ own_answer c
    due c = own-due c next (stepped-length sum (count_of s) s ∙ whole) (omega (arith, counted, count-to sum (count_of s) s))
