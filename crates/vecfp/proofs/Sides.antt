-- The lanes of X and of Y: those loaded, and the lane that each lane uses. Over the format.
-- Assumes nothing.
use Rattle.std.proofs.Common.{◌≡◌, ℕ, zero, suc, ◌+◌, ◌*◌, ◌%◌, ◌≤◌, ◌<◌, Bool, true, false, cond, not, ◌&&◌, eqb, List, ◌∷◌, length, take, map, replicate}
use Rattle.std.proofs.Common.{Option, Some, None, get_or, refl, sym, ap, ◌∙◌, zero-add, mod-lt, get_or-take, eq-eqb, ne_eqb, arith}
use Rattle.std.proofs.lemmas.List.{get_or-map}
use native.Mathlib.Nat.{zero-mod}
use lib.Ieee.{Format, binary32, binary64}
use Rattle.number.specs.Bytes.{byte_at, number, table}
use Rattle.number.proofs.Bytes.{get_d-table, number_same}
use Rattle.number.proofs.Tests.{either, pick_true, pick_false}
use Rattle.isa.specs.State.{x_base, y_base, loaded}
use Rattle.isa.specs.Vecint as Vecint
use Rattle.isa.specs.Vecfp as Vecfp
use Rattle.isa.specs.Vecfp.{width}
use Rattle.state.proofs.Numbers as Numbers
use Rattle.masks.proofs.Bools.{same-all}
use Rattle.vecfp.specs.declared.Side.{Side}
use Rattle.vecfp.specs.Vectors.{Fills, x_lane, y_lane, lane_used, lanes_in, byte_from, side_byte, words_of, side_lanes}

-- lanes fill a row, and 64 bytes of a side
pub fits : (f : Format) → lanes_in f * width f ≡ 64
fits binary32 = refl
fits binary64 = refl

pub some_lanes : (f : Format) → 0 < lanes_in f
some_lanes binary32 = omega arith
some_lanes binary64 = omega arith

pub few-lanes : (f : Format) → lanes_in f ≤ 64
few-lanes binary32 = omega arith
few-lanes binary64 = omega arith

pub at : {A : Type 0} (d : A) (f : ℕ → A) (n k : ℕ) → k < n → get_or (table f 0 n) k d ≡ f k
at d f n k h = get_d-table f d 0 n k h ∙ ap f (zero-add k)

module _ (f : Format) (b n : ℕ) (fills : Fills f b n) where
  pub row-filled : n * b ≡ 64
  row-filled = (λ i. fills.1 i * fills.0 i) ∙ fits f

  pub lanes-some : 0 < n
  lanes-some = omega (arith, fills.1, some_lanes f)

  -- the numbers of bytes
  module _ (g : ℕ → ℕ) {r : List ℕ} where
    pub numbers-of : (bytes : List ℕ) → bytes ≡ table g 0 64 → r ≡ table (λ l. number b (byte_at bytes) (b * l)) 0 n → r ≡ words_of f g
    numbers-of bytes eb er =
        Numbers.words_of b n row-filled g bytes r eb er ∙ (λ i. table (λ l. number (fills.0 i) g (fills.0 i * l)) 0 (fills.1 i))

-- ---- a side

map-replicate : {A B : Type 0} (p : A → B) (n : ℕ) (x : A) → map p (replicate n x) ≡ replicate n (p x)
map-replicate p zero x = refl
map-replicate p (suc n) x = ap (λ (l : _). p x ∷ l) (map-replicate p n x)

module _ (f : Format) (s : List ℕ) (side : Side) where
  pub side-own : {r : List ℕ} → side.lane ≡ None → r ≡ words_of f (side_byte s side) → r ≡ side_lanes f s side
  side-own e er = er ∙ (λ i. table (λ l. number (width f) (side_byte s side) (width f * lane_used (lanes_in f) (sym e i) l)) 0 (lanes_in f))

  -- one number for all lanes
  pub side-one : {A : Type 0} (p : A → ℕ) (words : List A) (x d : A) (n lane : ℕ) → n ≡ lanes_in f → length words ≡ n → side.lane ≡ Some lane
      → map p words ≡ words_of f (side_byte s side) → x ≡ get_or words (lane % n) d → map p (replicate n x) ≡ side_lanes f s side
  side-one p words x d n lane en size e ew ex =
      map-replicate p n x
      ∙ same-all n (p x)
      ∙ (λ i. table (λ l. chosen i) 0 (en i))
      ∙ (λ i. table (λ l. number (width f) (side_byte s side) (width f * lane_used (lanes_in f) (sym e i) l)) 0 (lanes_in f))
    where
      inside : lane % n < n
      inside = mod-lt lane (omega (arith, en, some_lanes f))

      chosen : p x ≡ number (width f) (side_byte s side) (width f * (lane % lanes_in f))
      chosen =
          ap p ex
          ∙ sym (get_or-map p words (lane % n) d 0 (omega (arith, inside, size)))
          ∙ ap (λ (v : List ℕ). get_or v (lane % n) 0) ew
          ∙ at 0 (λ l. number (width f) (side_byte s side) (width f * l)) (lanes_in f) (lane % n) (omega (arith, inside, en))
          ∙ (λ i. number (width f) (side_byte s side) (width f * (lane % en i)))

-- bytes from an offset that is read unless an override forces 0
pub overridden : (xy : List ℕ) (base : ℕ) (zero : Bool) (from i : ℕ) → byte_from xy base (cond zero None (Some from)) i ≡ cond zero 0 (loaded xy base from i)
overridden xy base true from i = refl
overridden xy base false from i = refl

-- X and Y lie before byte 1,024 of the state
in_xy : (s : List ℕ) (side : Side) (i : ℕ) → side_byte s side i ≡ side_byte (take 1024 s) side i
in_xy s side i = by side.from
  where
    base : ℕ
    base = cond side.y y_base x_base

    by : (o : Option ℕ) → byte_from s base o i ≡ byte_from (take 1024 s) base o i
    by None = refl
    by (Some from) =
        let low : base ≤ 512 = either (λ n. n ≤ 512) side.y (omega arith) (omega arith) in
        sym (get_or-take 1024 s (base + (from + i) % 512) 0 (omega (arith, low)))

-- lane l of a side
pub side-at : (f : Format) (s : List ℕ) (side : Side) (lanes : List ℕ) → lanes ≡ side_lanes f s side → (l : ℕ) → l < lanes_in f
    → get_or lanes l 0 ≡ number (width f) (side_byte (take 1024 s) side) (width f * lane_used (lanes_in f) side.lane l)
side-at f s side lanes el l h =
    let used : ℕ → ℕ = λ k. width f * lane_used (lanes_in f) side.lane k in
    ap (λ (x : List ℕ). get_or x l 0) el
    ∙ at 0 (λ k. number (width f) (side_byte s side) (used k)) (lanes_in f) l h
    ∙ number_same (width f) (side_byte s side) (side_byte (take 1024 s) side) (used l) (λ k hk. in_xy s side (used l + k))

-- ---- the lane that lane l uses

module _ (gen op : ℕ) where
  pub x-used : (m l : ℕ) → lane_used m (x_lane gen op) l ≡ Vecfp.x_index gen op l
  unfolding Vecfp.x_index
  x-used m l = by (Vecint.broadcasts gen op 6 6)
    where
      by : (b : Bool) → lane_used m (cond b (Some 0) None) l ≡ cond b 0 l
      by true = zero-mod m
      by false = refl

  pub y-used : (f : Format) → Vecfp.format_of op ≡ f → (l : ℕ) → lane_used (lanes_in f) (y_lane gen op) l ≡ Vecfp.y_index gen op l
  unfolding Vecfp.y_index
  y-used f e l =
      by (Vecint.broadcasts gen op 7 7) (not (Vecint.several gen op) && eqb (Vecint.enable_mode op) 1)
      ∙ (λ i.
      cond (Vecint.broadcasts gen op 7 7) 0
      (cond (not (Vecint.several gen op) && eqb (Vecint.enable_mode op) 1) (Vecfp.enable_value op % lanes_in (sym e i)) l))
    where
      by : (a b : Bool)
          → lane_used (lanes_in f) (cond a (Some 0) (cond b (Some (Vecfp.enable_value op)) None)) l ≡ cond a 0 (cond b (Vecfp.enable_value op % lanes_in f) l)
      by true b = zero-mod (lanes_in f)
      by false true = refl
      by false false = refl

-- Y's, by the branches of the code
module _ (gen op : ℕ) (other : Vecint.broadcasts gen op 7 7 ≡ false) where
  abbrev unfixed : ℕ → Option ℕ
  unfixed n = cond (not (Vecint.several gen op) && eqb (Vecint.enable_mode op) 1) (Some n) None

  of-y : (n : Option ℕ) → n ≡ unfixed (Vecfp.enable_value op) → n ≡ y_lane gen op
  of-y n e = e ∙ sym (pick_false _ _ other)

  pub y-several : Vecint.several gen op ≡ true → None ≡ y_lane gen op
  y-several t = of-y None (sym (pick_false _ _ (ap (λ (b : Bool). not b && eqb (Vecint.enable_mode op) 1) t)))

  module _ (one : Vecint.several gen op ≡ false) (mode : ℕ) (em : mode ≡ Vecint.enable_mode op) where
    by-enable : {b : Bool} → eqb (Vecint.enable_mode op) 1 ≡ b → not (Vecint.several gen op) && eqb (Vecint.enable_mode op) 1 ≡ b
    by-enable e = ap (λ (b : Bool). not b && eqb (Vecint.enable_mode op) 1) one ∙ e

    pub y-fixed : mode ≡ 1 → (n : ℕ) → n ≡ Vecfp.enable_value op → Some n ≡ y_lane gen op
    y-fixed e n en = of-y (Some n) (ap Some en ∙ sym (pick_true _ _ (by-enable (eq-eqb (Vecint.enable_mode op) 1 (sym em ∙ e)))))

    pub y-own : (mode ≡ 1 → ⊥) → None ≡ y_lane gen op
    y-own n = of-y None (sym (pick_false _ _ (by-enable (ne_eqb (Vecint.enable_mode op) 1 (λ e. n (em ∙ e))))))
