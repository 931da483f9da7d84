use Rattle.std.proofs.Common.{◌≡◌, ℕ, ap, sym, ◌∙◌, zero-add, get_or, pos, rules}
use Rattle.number.specs.Integers.{signed, read}
use Rattle.number.proofs.Bytes.{get_d-table}
use Rattle.number.proofs.Made.{from_fn-each}
use Rattle.sides.specs.Sides.{lane_of}
use Rattle.sides.proofs.Lanes.{lane_byte}
use Rattle.sides.proofs.bytes16.Goals as goal

pub returns : goal.returns
returns c =
    let bytes = c.args.bytes.now in
    let sign = c.args.sign in
    λ k l h.
    lane_byte sign bytes k (get_or c.from_fn.result k 0)
    (from_fn-each (λ (i y : ℕ). signed 2 y ≡ read sign 1 (get_or bytes i 0)) (λ i y q g t. search rules) c.from_fn.ensures.items 0 k h)
    ∙ sym (get_d-table (lane_of sign 1 bytes) (pos 0) 0 64 k h ∙ ap (lane_of sign 1 bytes) (zero-add k))
