-- A row of Z as the list of its lanes' numbers: read, stored, and made anew from what was read. m lanes of b bytes fill it.
-- Assumes nothing.
use Rattle.std.proofs.Common.{◌≡◌, ℕ, ◌+◌, ◌-◌, ◌*◌, ◌%◌, ◌<◌, ◌≤◌, Bool, true, false, cond, map, ◌&&◌, eqb, List, length, get_or, sym, ap, ◌∙◌, mod-eq_of_lt}
use Rattle.std.proofs.Common.{mul_comm, zero-add, arith, eq-eqb}
use Rattle.std.proofs.lemmas.List.{get_or-map}
use lib.Arith.{digits_lt}
use lib.Seq.{sets}
use Rattle.number.specs.Bytes.{span, byte_at, number, bytes_of, table}
use Rattle.number.proofs.Bytes.{get_d-table, table_same, number_same, number-moved}
use Rattle.number.proofs.Tests.{two, pick_true, pick_false}
use Rattle.isa.specs.State.{z_base, start}
use Rattle.isa.specs.Effect.{new_lane, applied}
use Rattle.isa.proofs.Place.{factor_pos}
use Rattle.state.specs.Rows.{among, one_row}
use Rattle.state.proofs.Holds.{Bytes, lane_after}
use Rattle.state.proofs.RunLoop.{among_one, run-outside}
use Rattle.state.proofs.RowsLoop.{same-lanes}
use Rattle.state.proofs.Dealing.{in_row, Lanes, lanes-none, lanes-still, lanes-more, lanes_all}

at : {A : Type 0} (d : A) (f : ℕ → A) (n k : ℕ) → k < n → get_or (table f 0 n) k d ≡ f k
at d f n k h = get_d-table f d 0 n k h ∙ ap f (zero-add k)

-- a value chosen of two arrays, by its number
pub number-chosen : {A : Type 0} (p : A → ℕ) (o : Bool) (vs zs : List A) (l : ℕ) (v d e : A) → l < length vs → l < length zs
    → v ≡ cond o (get_or vs l d) (get_or zs l e) → p v ≡ cond o (get_or (map p vs) l 0) (get_or (map p zs) l 0)
number-chosen p true vs zs l v d e hv hz ev = ap p ev ∙ sym (get_or-map p vs l d 0 hv)
number-chosen p false vs zs l v d e hv hz ev = ap p ev ∙ sym (get_or-map p zs l e 0 hz)

module _ (b m : ℕ) (fit : m * b ≡ 64) where
  -- a lane lies in its row
  pub lane_fits : (l : ℕ) → l < m → l * b + b ≤ 64
  lane_fits l h =
      let positive : 0 < b = factor_pos b m 63 fit in
      let last : b - 1 < b = omega arith in
      omega (arith, fit, digits_lt h last)

  -- the numbers of 64 bytes, by what gives the bytes
  pub words_of : (f : ℕ → ℕ) (bytes r : List ℕ) → bytes ≡ table f 0 64
      → r ≡ table (λ l. number b (byte_at bytes) (b * l)) 0 m → r ≡ table (λ l. number b f (b * l)) 0 m
  words_of f bytes r eb er = er ∙ table_same (λ l. number b (byte_at bytes) (b * l)) (λ l. number b f (b * l)) m lane
    where
      lane : (l : ℕ) → l < m → number b (byte_at bytes) (b * l) ≡ number b f (b * l)
      lane l hl =
          number_same b (byte_at bytes) f (b * l)
          (λ k hk.
          let inside : l * b + k < m * b = digits_lt hl hk in
          ap (λ (x : List ℕ). byte_at x (b * l + k)) eb ∙ at 0 f 64 (b * l + k) (omega (arith, mul_comm b l)))

  -- of a row's bytes
  pub row_read : (s bytes r : List ℕ) (row : ℕ) → bytes ≡ table (λ i. byte_at s (z_base + row * 64 + i)) 0 64
      → r ≡ table (λ l. number b (byte_at bytes) (b * l)) 0 m → r ≡ table (λ l. number b (byte_at s) (start b row l)) 0 m
  row_read s bytes r row eb er =
      words_of (λ i. byte_at s (z_base + row * 64 + i)) bytes r eb er
      ∙ table_same (λ l. number b (λ i. byte_at s (z_base + row * 64 + i)) (b * l)) (λ l. number b (byte_at s) (start b row l)) m
      (λ l hl.
      number-moved b (λ i. byte_at s (z_base + row * 64 + i)) (byte_at s) (b * l) (start b row l)
      (λ k hk. ap (byte_at s) (omega (arith, mul_comm b l))))

  -- ---- a row stored from a list of values

  module _ (row : ℕ) (values : List ℕ) (on : List Bool) (s₀ : List ℕ) where
    abbrev enabled : ℕ → Bool
    enabled l = get_or on l false

    abbrev value : ℕ → ℕ → ℕ
    value l z = get_or values l 0

    -- the lanes before l are stored
    abbrev pub Stored : ℕ → List ℕ → Type 0
    Stored l s = (l ≤ m) × Lanes b m fit row enabled value s₀ l s × Bytes s

    pub stored-none : length s₀ ≡ 5120 → Bytes s₀ → Stored 0 s₀
    stored-none size small = (omega arith, lanes-none b m fit row enabled value s₀ size, small)

    -- Lane l is stored anew; what it was had been read before any of them.
    pub stored_more : (zs : List ℕ) → zs ≡ table (λ l. number b (byte_at s₀) (start b row l)) 0 m
        → (l v : ℕ) (s t : List ℕ) → Bytes s₀ → Bytes t → row < 64 → l < m → Stored l s
        → v ≡ cond (get_or on l false) (get_or values l 0) (get_or zs l 0) → t ≡ sets s (start b row l) (bytes_of b v) → Stored (l + 1) t
    stored_more zs ez l v s t small now hr hl held ev et =
        (omega arith, lanes-more b m fit row enabled value s₀ l s t small hr hl held.1 stored, now)
      where
        -- a lane that is not stored yet
        still : get_or zs l 0 ≡ number b (byte_at s) (start b row l)
        still =
            ap (λ (v : List ℕ). get_or v l 0) ez ∙ at 0 (λ k. number b (byte_at s₀) (start b row k)) m l hl
            ∙ sym (lanes-still b m fit row enabled value s₀ l s hr hl held.1)

        chosen : v ≡ cond (get_or on l false) (get_or values l 0) (number b (byte_at s) (start b row l))
        chosen = ev ∙ ap (cond (get_or on l false) (get_or values l 0)) still

        stored : t ≡ sets s (start b row l) (bytes_of b (cond (get_or on l false) (get_or values l 0) (number b (byte_at s) (start b row l))))
        stored = et ∙ ap (λ (n : ℕ). sets s (start b row l) (bytes_of b n)) chosen

    pub stored-all : (l : ℕ) (s : List ℕ) → m ≤ l → length s₀ ≡ 5120 → Bytes s₀ → Stored l s
        → s ≡ cond (eqb (length s₀) 5120) (applied (one_row b row enabled value) s₀) s₀
    stored-all l s h size small held =
        lanes_all b m fit row enabled value s₀ l s h size small held.2 held.1 ∙ sym (pick_true _ _ (eq-eqb (length s₀) 5120 size))

    pub stored-outside : 64 ≤ row → length s₀ ≡ 5120 → s₀ ≡ cond (eqb (length s₀) 5120) (applied (one_row b row enabled value) s₀) s₀
    stored-outside h size =
        run-outside (one_row b row enabled value) m fit row 1 s₀ (in_row b m fit row enabled value) h
        ∙ sym (pick_true _ _ (eq-eqb (length s₀) 5120 size))

  -- ---- one row that is made in two ways

  module _ (row : ℕ) (s : List ℕ) (size : length s ≡ 5120) (small : Bytes s) where
    abbrev old : ℕ → ℕ
    old l = number b (byte_at s) (start b row l)

    -- rules that agree on the lanes there are, at their own old numbers
    pub row_same : (on on' : ℕ → Bool) (new new' : ℕ → ℕ → ℕ) → ((l : ℕ) → l < m → on l ≡ on' l) → ((l : ℕ) → l < m → new l (old l) ≡ new' l (old l))
        → applied (one_row b row on new) s ≡ applied (one_row b row on' new') s
    unfolding new_lane
    row_same on on' new new' eo en = same-lanes b _ _ _ _ false false m fit s size small lane
      where
        lane : (r l : ℕ) → r < 64 → l < m → lane_after (one_row b row on new) s r l ≡ lane_after (one_row b row on' new') s r l
        lane r l hr hl =
            two (among row 1 r) (lane_after (one_row b row on new) s r l ≡ lane_after (one_row b row on' new') s r l)
            (λ t.
            let same : r ≡ row = among_one row r t in
            let Z : ℕ = number b (byte_at s) (start b r l) in
            let here : Z ≡ old l = ap (λ (x : ℕ). number b (byte_at s) (start b x l)) same in
            let made : new l Z ≡ new' l Z = ap (new l) here ∙ en l hl ∙ ap (new' l) (sym here) in
            λ i. cond (among row 1 r && eo l hl i) (made i % span b) Z)
            (λ f. pick_false _ _ (off on f) ∙ sym (pick_false _ _ (off on' f)))
          where
            off : (o : ℕ → Bool) → among row 1 r ≡ false → among row 1 r && o l ≡ false
            off o f = rw f

    -- The row's numbers were read, new ones were made of them, and these were stored.
    pub row_made : (on : ℕ → Bool) (new : ℕ → ℕ → ℕ) (zs values : List ℕ) → row < 64
        → zs ≡ table (λ l. number b (byte_at s) (start b (row % 64) l)) 0 m → values ≡ table (λ l. new l (get_or zs l 0)) 0 m
        → applied (one_row b row on (λ l z. get_or values l 0)) s ≡ applied (one_row b row on new) s
    row_made on new zs values hr ez ev = row_same on on (λ l z. get_or values l 0) new (λ l hl. λ i. on l) made
      where
        made : (l : ℕ) → l < m → get_or values l 0 ≡ new l (old l)
        made l hl =
            let same : row % 64 ≡ row = mod-eq_of_lt hr in
            ap (λ (v : List ℕ). get_or v l 0) ev ∙ at 0 (λ k. new k (get_or zs k 0)) m l hl
            ∙ ap (new l) (ap (λ (v : List ℕ). get_or v l 0) ez ∙ at 0 (λ k. number b (byte_at s) (start b (row % 64) k)) m l hl)
            ∙ ap (λ (x : ℕ). new l (number b (byte_at s) (start b x l))) same
