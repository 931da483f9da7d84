use Rattle.number.proofs.Slice.{stores_1, stored}
use Rattle.std.proofs.Common.{◌≡◌, ℕ, ◌+◌, ◌/◌, ◌%◌, List, get_or, ap, ◌∙◌, arith}
use Rattle.number.proofs.U16Whole.keep.Goals as goal

low : (c : goal.After-to_le_bytes) → get_or c.to_le_bytes.result 0 0 ≡ c.args.self % 256
low c = ap (λ (bs : List ℕ). get_or bs 0 0) c.to_le_bytes.ensures

high : (c : goal.After-to_le_bytes) → get_or c.to_le_bytes.result 1 0 ≡ c.args.self / 256
high c = ap (λ (bs : List ℕ). get_or bs 1 0) c.to_le_bytes.ensures ∙ omega arith

pub returns : goal.returns
returns c =
    let a = c.args in
    stored 1 a.s.now _ _ a.at a.self _ _ (low c) (high c)
    (stores_1 a.s.now a.at _ (omega (arith, low c)))
    (stores_1 _ (a.at + 1) _ (omega (arith, high c)))
