-- The products that the code sums are what mac16 means.
-- Assumes nothing.
use mathlib.Core.Path.{◌≡◌, refl, sym, ap, ap₂, ◌∙◌}
use mathlib.Core.Bool.{Bool, true, false, cond, not, ◌&&◌, ◌||◌}
use mathlib.Core.List.{List}
use Prim.Native.Nat.{ℕ, suc, ◌+◌, ◌*◌, ◌/◌, ◌%◌, ◌^◌, ◌≤◌, ◌<◌}
use native.Mathlib.Nat.{zero-add, add-zero, mod-eq_of_lt, zero-div, zero-mod, one-mul, mul-one, zero-mul}
use native.Mathlib.Omega.{arith}
use lib.Dec.{eqb}
use lib.IntN.{ℤ, pos, negsuc, neg_ℤ, ◌*ℤ◌}
use lib.ListN.{length, take, get_or}
use lib.Seq.{get_or-take}
use Rattle.number.specs.Bytes.{span, byte_at, number, table}
use Rattle.number.specs.Integers.{signed, wrap, ◌≫◌}
use Rattle.number.proofs.Bytes.{get_d-table, number_same}
use Rattle.number.proofs.Modular.{adds_modulo}
use Rattle.number.proofs.Tests.{pick_true, pick_false}
use Rattle.isa.specs.Operand.{bits, bit}
use Rattle.isa.specs.State.{x_base, y_base, start, loaded}
use Rattle.isa.specs.Effect.{new_lane, applied}
use Rattle.isa.specs.Mac16 as Mac16
use Rattle.isa.specs.Mac16.{Form, vector, matrix16, matrix32, z_width, i_of, j_of, x_enabled, y_enabled}
use Rattle.state.specs.Rows.{lane_sum}
use Rattle.state.proofs.Holds.{Bytes, lane_after}
use Rattle.state.proofs.RunLoop.{number_lt}
use Rattle.state.proofs.RowsLoop.{same-lanes}
use Rattle.mac16.specs.Products.{side, masked, other_than_x, term, row_on, loaded_bytes, x_mask, y_mask, x_side, x_factors, y_factors, products_of}

-- ---- lists by their elements

at : {A : Type 0} (d : A) (f : ℕ → A) (n i : ℕ) → i < n → get_or (table f 0 n) i d ≡ f i
at d f n i h = get_d-table f d 0 n i h ∙ ap f (zero-add i)

-- the bytes loaded lie in X and Y
loaded-same : (s : List ℕ) (base offset p : ℕ) → base ≤ 512 → p < 64 → byte_at (loaded_bytes s base offset) p ≡ loaded (take 1024 s) base offset p
loaded-same s base offset p h l =
    at 0 (loaded s base offset) 64 p l ∙ sym (get_or-take 1024 s (base + (offset + p) % 512) 0 (omega arith))

lane-same : (i8 : Bool) (f g : ℕ → ℕ) (i : ℕ) → i < 32 → ((p : ℕ) → p < 64 → f p ≡ g p) → Mac16.lane i8 f i ≡ Mac16.lane i8 g i
lane-same i8 f g i h same =
    ap₂ (λ (a b : ℕ). cond i8 (signed 1 a) (signed 2 b))
    (number_same 1 f g (2 * i) (λ k l. same (2 * i + k) (omega arith)))
    (number_same 2 f g (2 * i) (λ k l. same (2 * i + k) (omega arith)))

module _ (op : ℕ) (s : List ℕ) where
  xy : List ℕ
  xy = take 1024 s

  x-factor : (i : ℕ) → i < 32 → get_or (x_factors op s (x_mask op)) i (pos 0) ≡ cond (x_enabled op i)
      (cond (bit op 29) (other_than_x op) (Mac16.x_lane op xy i)) (pos 0)
  unfolding x_side masked side Mac16.x_lane xy
  x-factor i h =
      at (pos 0) _ 32 i h
      ∙ ap₂ (λ (on : Bool) (x : ℤ). cond on x (pos 0)) (at false (x_enabled op) 32 i h) (at (pos 0) _ 32 i h)
      ∙ ap (λ (x : ℤ). cond (x_enabled op i) (cond (bit op 29) (other_than_x op) x) (pos 0))
      (lane-same (bit op 61) (byte_at (loaded_bytes s x_base (bits op 10 18))) (loaded (take 1024 s) x_base (bits op 10 18)) i h
      (λ p l. loaded-same s x_base (bits op 10 18) p (omega arith) l))

  y-factor : (j : ℕ) → j < 32 → get_or (y_factors op s) j (pos 0) ≡ cond (bit op 28) (pos 1) (Mac16.y_lane op xy j)
  unfolding y_factors side Mac16.y_lane xy
  y-factor j h =
      at (pos 0) _ 32 j h
      ∙ ap (λ (y : ℤ). cond (bit op 28) (pos 1) y)
      (lane-same (bit op 60) (byte_at (loaded_bytes s y_base (bits op 0 8))) (loaded (take 1024 s) y_base (bits op 0 8)) j h
      (λ p l. loaded-same s y_base (bits op 0 8) p (omega arith) l))

-- ---- the product is the value

times-one : (x : ℤ) → x *ℤ pos 1 ≡ x
times-one (pos n) = ap pos (mul-one n)
times-one (negsuc n) = ap (λ (k : ℕ). neg_ℤ (pos k)) (mul-one (suc n))

one-times : (y : ℤ) → pos 1 *ℤ y ≡ y
one-times (pos n) = ap pos (one-mul n)
one-times (negsuc n) = ap (λ (k : ℕ). neg_ℤ (pos k)) (one-mul (suc n))

product_is : (skip_x skip_y : Bool) (x y : ℤ) → cond skip_x (cond skip_y (pos 0) (pos 1)) x *ℤ cond skip_y (pos 1) y ≡ Mac16.value skip_x skip_y x y
product_is true true x y = times-one (pos 0)
product_is true false x y = one-times y
product_is false true x y = times-one x
product_is false false x y = refl

-- a factor of 0 adds nothing
nothing : (b s : ℕ) (y : ℤ) → term b s (pos 0) y ≡ 0
unfolding term
nothing b s y = ap (λ (v : ℤ). wrap (span b) (v ≫ s)) (zero-times y) ∙ ap (λ (n : ℕ). n % span b) (zero-div (2 ^ s)) ∙ zero-mod (span b)
  where
    zero-times : (y : ℤ) → pos 0 *ℤ y ≡ pos 0
    zero-times (pos n) = ap pos (zero-mul n)
    zero-times (negsuc n) = ap (λ (k : ℕ). neg_ℤ (pos k)) (zero-mul (suc n))

-- ---- one lane

-- R: the row is written; X: the X lane is enabled; T: what the code adds; v: the value that is meant
lane-meant : (R X skip : Bool) (b Z T : ℕ) (v : ℤ) → Z < span b → (X ≡ true → T ≡ wrap (span b) v) → (X ≡ false → T ≡ 0)
    → cond (R && (not skip || X)) (lane_sum b Z T X (not skip) % span b) Z ≡ cond (R && X) (Mac16.result skip b v Z % span b) Z
unfolding lane_sum Mac16.result
lane-meant false X skip b Z T v h on off = refl
lane-meant true true false b Z T v h on off = ap (λ (n : ℕ). n % span b) (ap (λ (t : ℕ). (Z + t) % span b) (on refl) ∙ sym (adds_modulo b Z v))
lane-meant true true true b Z T v h on off = ap (λ (n : ℕ). n % span b) (on refl)
lane-meant true false false b Z T v h on off =
    ap (λ (t : ℕ). (Z + t) % span b % span b) (off refl)
    ∙ ap (λ (n : ℕ). n % span b % span b) (add-zero Z)
    ∙ ap (λ (n : ℕ). n % span b) (mod-eq_of_lt h)
    ∙ mod-eq_of_lt h
lane-meant true false true b Z T v h on off = refl

and_turn : (a b : Bool) → a && b ≡ b && a
and_turn true true = refl
and_turn true false = refl
and_turn false true = refl
and_turn false false = refl

and_last : (a b c : Bool) → a && (b && c) ≡ (a && c) && b
and_last true b c = and_turn b c
and_last false b c = refl

module _ (op : ℕ) (s : List ℕ) (small : Bytes s) where
  -- enabled: the row is written, and its X lane is enabled
  on-meant : (form : Form) (row l : ℕ) → row < 64 → (row_on form (Mac16.z_row op) (y_mask op) row && x_enabled op (i_of form row l)) ≡ Mac16.on form op row l
  unfolding row_on Mac16.on
  on-meant vector row l h = refl
  on-meant matrix16 row l h =
      ap (λ (y : Bool). (eqb (row % 2) (Mac16.z_row op % 2) && y) && x_enabled op l) (at false (y_enabled op) 32 (row / 2) (omega arith))
      ∙ sym (and_last (eqb (row % 2) (Mac16.z_row op % 2)) (x_enabled op l) (y_enabled op (row / 2)))
  on-meant matrix32 row l h =
      ap (λ (y : Bool). y && x_enabled op (2 * l + row % 2)) (at false (y_enabled op) 32 (row / 2) (omega arith))
      ∙ and_turn (y_enabled op (row / 2)) (x_enabled op (2 * l + row % 2))

  lane-at : (form : Form) (row l : ℕ) → row < 64 → i_of form row l < 32 → j_of form row l < 32
      → lane_after (products_of form op s) s row l ≡ lane_after (Mac16.effect form op) s row l
  unfolding new_lane
  lane-at form row l hr hi hj =
      ap (λ (X : Bool). cond (R && (not skip || X)) (lane_sum b Z T X (not skip) % span b) Z) (at false (x_enabled op) 32 i hi)
      ∙ lane-meant R (x_enabled op i) skip b Z T v (number_lt b (byte_at s) (start b row l) small) on off
      ∙ ap (λ (X : Bool). cond X (Mac16.result skip b v Z % span b) Z) (on-meant form row l hr)
    where
      b : ℕ
      b = z_width form

      i : ℕ
      i = i_of form row l

      j : ℕ
      j = j_of form row l

      skip : Bool
      skip = bit op 27

      R : Bool
      R = row_on form (Mac16.z_row op) (y_mask op) row

      Z : ℕ
      Z = number b (byte_at s) (start b row l)

      x : ℤ
      x = get_or (x_factors op s (x_mask op)) i (pos 0)

      y : ℤ
      y = get_or (y_factors op s) j (pos 0)

      T : ℕ
      T = term b (bits op 55 59) x y

      v : ℤ
      v = Mac16.shifted op (Mac16.x_lane op (take 1024 s) i) (Mac16.y_lane op (take 1024 s) j)

      on : x_enabled op i ≡ true → T ≡ wrap (span b) v
      on e =
          unfold term Mac16.shifted xy in
          ap (λ (n : ℤ). wrap (span b) (n ≫ bits op 55 59))
          (ap₂ (λ (p q : ℤ). p *ℤ q) (x-factor op s i hi ∙ pick_true _ _ e) (y-factor op s j hj)
          ∙ product_is (bit op 29) (bit op 28) (Mac16.x_lane op (take 1024 s) i) (Mac16.y_lane op (take 1024 s) j))

      off : x_enabled op i ≡ false → T ≡ 0
      off e = ap (λ (p : ℤ). term b (bits op 55 59) p y) (x-factor op s i hi ∙ pick_false _ _ e) ∙ nothing b (bits op 55 59) y

  pub meant : (form : Form) → length s ≡ 5120 → applied (products_of form op s) s ≡ applied (Mac16.effect form op) s
  meant vector size = same-lanes 2 _ _ _ _ _ _ 32 refl s size small (λ row l hr hl. lane-at vector row l hr hl hl)
  meant matrix16 size = same-lanes 2 _ _ _ _ _ _ 32 refl s size small (λ row l hr hl. lane-at matrix16 row l hr hl (omega arith))
  meant matrix32 size = same-lanes 4 _ _ _ _ _ _ 16 refl s size small (λ row l hr hl. lane-at matrix32 row l hr (omega arith) (omega arith))
