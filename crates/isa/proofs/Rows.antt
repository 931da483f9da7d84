-- The first row of a table that applies.
-- Assumes nothing.
use mathlib.Core.Path.{◌≡◌, refl, sym, ◌∙◌}
use mathlib.Core.List.{List, [], ◌∷◌}
use mathlib.Core.Logic.{◌⊎◌, inl, inr, ⊎_elim}
use Prim.Native.Nat.{ℕ}
use Rattle.isa.specs.declared.Answer.{Answer}
use Rattle.isa.specs.declared.Answer.TheVariants.{NoOp, Refused}
use Rattle.isa.specs.declared.Reason.TheVariants.{ReservedBits, ReservedMode, LaterGeneration}
use Rattle.isa.specs.declared.Refusal.TheVariants.{StateLength, Generation, Instruction, NotCovered, Serial, LastCount}
use Rattle.isa.specs.Call.{Call, mac16, vecint, vecfp, fms64, other, instruction_of}
use Rattle.isa.specs.Call as Calls
use Rattle.isa.specs.Answers.{Row, first_of, asked_by, rows_above}
use Rattle.number.proofs.Tests.{two, either, pick_true, pick_false}

abbrev pub AllRows : (Answer → Type 0) → List Row → Type 0
AllRows P [] = Unit {0}
AllRows P (r ∷ rs) = P r.answer × AllRows P rs

-- what every answer of a table has, the one that is given has
pub first-all : (P : Answer → Type 0) (rs : List Row) (a : Answer) → AllRows P rs → P a → P (first_of rs a)
first-all P [] a h x = x
first-all P (r ∷ rs) a h x = either P r.applies h.0 (first-all P rs a h.1 x)

-- the rows by what a call asks for have four answers
pub asked_all : (P : Answer → Type 0) → P (NoOp ReservedBits) → P (NoOp ReservedMode) → P (NoOp LaterGeneration) → P (Refused NotCovered)
    → (i : Calls.Instruction) (gen op : ℕ) → AllRows P (asked_by i gen op)
asked_all P a b c d mac16 gen op = tt
asked_all P a b c d vecint gen op = (a, (b, (c, (d, tt))))
asked_all P a b c d vecfp gen op = (a, (b, (c, (d, tt))))
asked_all P a b c d fms64 gen op = (d, tt)
asked_all P a b c d other gen op = tt

-- and all rows above done have nine, in the order of the table
pub above_all : (P : Answer → Type 0) → P (Refused StateLength) → P (Refused Generation) → P (Refused Instruction) → P (Refused LastCount)
    → P (Refused Serial) → P (NoOp ReservedBits) → P (NoOp ReservedMode) → P (NoOp LaterGeneration) → P (Refused NotCovered)
    → (n count serial : ℕ) (c : Call) → AllRows P (rows_above n count serial c)
above_all P a b d e f g h j k n count serial c =
    (a, (b, (d, (e, (f, asked_all P g h j k (instruction_of c) c.generation c.operand)))))

-- the rows give an answer, whatever comes after them, or what comes after them does
pub first-or : (rs : List Row) (a b : Answer) → (first_of rs a ≡ first_of rs b) ⊎ (first_of rs a ≡ a)
first-or [] a b = inr refl
first-or (r ∷ rs) a b =
    two r.applies ((first_of (r ∷ rs) a ≡ first_of (r ∷ rs) b) ⊎ (first_of (r ∷ rs) a ≡ a))
    (λ t. inl (pick_true _ _ t ∙ sym (pick_true _ _ t)))
    (λ t.
    ⊎_elim
    (λ e. inl (pick_false _ _ t ∙ e ∙ sym (pick_false _ _ t)))
    (λ e. inr (pick_false _ _ t ∙ e))
    (first-or rs a b))
