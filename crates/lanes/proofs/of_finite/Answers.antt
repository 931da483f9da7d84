use mathlib.Core.Path.{◌≡◌, refl, sym, ap, ◌∙◌}
use mathlib.Core.Bool.{true, false}
use Prim.Native.Nat.{ℕ}
use lib.Ieee.{binary64}
use Rattle.float.specs.Floats.{Finite}
use Rattle.float.proofs.Finite.{finite_number, sum-finite, difference-finite, product-finite}
use Rattle.float.proofs.Language.{added-same, subtracted-same, multiplied-same}
use Rattle.float.proofs.Ops.{selected-is}
use Rattle.lanes.specs.declared.Kind.{Kind}
use Rattle.lanes.specs.Lanes.{meaning_of, asks_both}
use Rattle.lanes.proofs.of_finite.Goals as goal

-- the second is finite where the operation asks for it
second : {k l : Kind} (b : ℕ) → k ≡ l → (asks_both k ≡ true → Finite binary64 b) → asks_both l ≡ true → Finite binary64 b
second b is finite asks = finite (ap asks_both is ∙ asks)

-- by the kind that it is
by_kind : {k l : Kind} (a b : ℕ) {r : ℕ} → k ≡ l → r ≡ meaning_of l binary64 a b → r ≡ meaning_of k binary64 a b
by_kind a b is e = e ∙ sym (ap (λ (k : Kind). meaning_of k binary64 a b) is)

pub float_from_bits-x : goal.float_from_bits-x
float_from_bits-x c = finite_number binary64 c.args.a c.requires.0

pub float_from_bits-result : goal.float_from_bits-result
float_from_bits-result c = finite_number binary64 c.args.b (second c.args.b c.in-Sum.is c.requires.1 refl)

pub returns-in-Sum : goal.returns-in-Sum
returns-in-Sum c = by_kind c.args.a c.args.b c.in-Sum.is (added-same binary64 c.args.a c.args.b)

pub float_to_bits-result : goal.float_to_bits-result
float_to_bits-result c = sum-finite binary64 c.args.a c.args.b c.requires.0 (second c.args.b c.in-Sum.is c.requires.1 refl)

pub float_from_bits-result-in-Difference : goal.float_from_bits-result-in-Difference
float_from_bits-result-in-Difference c = finite_number binary64 c.args.b (second c.args.b c.in-Difference.is c.requires.1 refl)

pub returns-in-Difference : goal.returns-in-Difference
returns-in-Difference c = by_kind c.args.a c.args.b c.in-Difference.is (subtracted-same binary64 c.args.a c.args.b)

pub float_to_bits-result-in-Difference : goal.float_to_bits-result-in-Difference
float_to_bits-result-in-Difference c = difference-finite binary64 c.args.a c.args.b c.requires.0 (second c.args.b c.in-Difference.is c.requires.1 refl)

pub float_from_bits-result-in-Product : goal.float_from_bits-result-in-Product
float_from_bits-result-in-Product c = finite_number binary64 c.args.b (second c.args.b c.in-Product.is c.requires.1 refl)

pub returns-in-Product : goal.returns-in-Product
returns-in-Product c = by_kind c.args.a c.args.b c.in-Product.is (multiplied-same binary64 c.args.a c.args.b)

pub float_to_bits-result-in-Product : goal.float_to_bits-result-in-Product
float_to_bits-result-in-Product c = product-finite binary64 c.args.a c.args.b c.requires.0 (second c.args.b c.in-Product.is c.requires.1 refl)

pub returns-then-x : goal.returns-then-x
returns-then-x c = by_kind c.args.a c.args.b c.in-Choice.is (selected-is binary64 c.args.a c.args.b _ true refl c.if-x.true)

pub returns-else-x : goal.returns-else-x
returns-else-x c = by_kind c.args.a c.args.b c.in-Choice.is (selected-is binary64 c.args.a c.args.b _ false refl c.if-x.false)
