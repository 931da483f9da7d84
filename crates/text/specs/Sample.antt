-- Lines as 01 prints them, and numbers at the ends.
-- Assumes nothing.
use Rattle.std.specs.Prelude.{◌≡◌, [], ◌∷◌}
use Rattle.isa.specs.declared.Reason.TheVariants.{ReservedBits}
use Rattle.isa.specs.declared.Refusal.TheVariants.{NotCovered}
use Rattle.isa.specs.declared.Answer.TheVariants.{Done, NoOp, Refused}
use Rattle.text.specs.Lines.{digits, step_line, z_line, steps_line, refused_line}

pub record Samples : Type 0 where
  -- "The sample in 01 becomes `step 0 done 64`."
  pub done : step_line 0 (Done 64) ≡ 115 ∷ 116 ∷ 101 ∷ 112 ∷ 32 ∷ 48 ∷ 32 ∷ 100 ∷ 111 ∷ 110 ∷ 101 ∷ 32 ∷ 54 ∷ 52 ∷ 10 ∷ []
  -- "step 1 no-op 1"
  pub no-op : step_line 1 (NoOp ReservedBits) ≡ 115 ∷ 116 ∷ 101 ∷ 112 ∷ 32 ∷ 49 ∷ 32 ∷ 110 ∷ 111 ∷ 45 ∷ 111 ∷ 112 ∷ 32 ∷ 49 ∷ 10 ∷ []
  -- "step 10 refused 4"
  pub refused : step_line 10 (Refused NotCovered) ≡ 115 ∷ 116 ∷ 101 ∷ 112 ∷ 32 ∷ 49 ∷ 48 ∷ 32 ∷ 114 ∷ 101 ∷ 102 ∷ 117 ∷ 115 ∷ 101 ∷ 100 ∷ 32 ∷ 52 ∷ 10 ∷ []
  -- "z 0 0600a9fe"
  pub row : z_line 0 (6 ∷ 0 ∷ 169 ∷ 254 ∷ []) ≡ 122 ∷ 32 ∷ 48 ∷ 32 ∷ 48 ∷ 54 ∷ 48 ∷ 48 ∷ 97 ∷ 57 ∷ 102 ∷ 101 ∷ 10 ∷ []
  -- "steps 2"
  pub steps : steps_line 2 ≡ 115 ∷ 116 ∷ 101 ∷ 112 ∷ 115 ∷ 32 ∷ 50 ∷ 10 ∷ []
  -- "file refused 6"
  pub file : refused_line 6 ≡ 102 ∷ 105 ∷ 108 ∷ 101 ∷ 32 ∷ 114 ∷ 101 ∷ 102 ∷ 117 ∷ 115 ∷ 101 ∷ 100 ∷ 32 ∷ 54 ∷ 10 ∷ []
  -- "18446744073709551615"
  pub largest : digits 18446744073709551615 ≡ 49 ∷ 56 ∷ 52 ∷ 52 ∷ 54 ∷ 55 ∷ 52 ∷ 52 ∷ 48 ∷ 55 ∷ 51 ∷ 55 ∷ 48 ∷ 57 ∷ 53 ∷ 53 ∷ 49 ∷ 54 ∷ 49 ∷ 53 ∷ []
