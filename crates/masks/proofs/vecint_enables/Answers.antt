use mathlib.Core.Path.{refl, ap, ◌∙◌}
use Prim.Native.Nat.{ℕ}
use native.Mathlib.Omega.{arith}
use lib.Dec.{leb}
use Rattle.isa.specs.Enable.{vecint_enables, by_parity, first, last, first_or_all, last_or_all}
use Rattle.masks.specs.Mask.{mask_of, lane_used}
use Rattle.masks.proofs.Enabled.{all-is, first-used, last-used, first-or-all-used, last-or-all-used}
use Rattle.masks.proofs.Vecint.{in-mode, in-no-mode}
use Rattle.masks.proofs.vecint_enables.Goals as goal

pub returns-in-0 : goal.returns-in-0
unfolding vecint_enables
returns-in-0 c =
    let a = c.args in
    c.by_parity.ensures ∙ ap (λ (n : ℕ). mask_of (λ k. by_parity n (leb a.n 5) (lane_used a.halved k)) 64) c.from.ensures
    ∙ in-mode a.lanes a.n a.halved 0 _ (λ k. refl) c.in-0.is

pub returns-in-1 : goal.returns-in-1
unfolding vecint_enables
returns-in-1 c =
    let a = c.args in
    all-is _ (λ k h. refl) ∙ in-mode a.lanes a.n a.halved 1 _ (λ k. refl) c.in-1.is

pub returns-in-2 : goal.returns-in-2
unfolding vecint_enables
returns-in-2 c =
    let a = c.args in
    c.first_or_all.ensures ∙ ap (λ (m : ℕ). mask_of (first_or_all m) 64) c.places.ensures
    ∙ in-mode a.lanes a.n a.halved 2 _ (λ k. first-or-all-used k a.halved a.n) c.in-2.is

pub returns-in-3 : goal.returns-in-3
unfolding vecint_enables
returns-in-3 c =
    let a = c.args in
    c.last_or_all.ensures ∙ (λ i. mask_of (last_or_all (c.places-in-3.ensures i) (c.places-in-3-2.ensures i)) 64)
    ∙ in-mode a.lanes a.n a.halved 3 _ (λ k. last-or-all-used k a.halved a.lanes a.n) c.in-3.is

pub returns-in-4 : goal.returns-in-4
unfolding vecint_enables
returns-in-4 c =
    let a = c.args in
    c.first.ensures ∙ ap (λ (m : ℕ). mask_of (first m) 64) c.places-in-4.ensures
    ∙ in-mode a.lanes a.n a.halved 4 _ (λ k. first-used k a.halved a.n) c.in-4.is

pub returns-in-5 : goal.returns-in-5
unfolding vecint_enables
returns-in-5 c =
    let a = c.args in
    c.last.ensures ∙ (λ i. mask_of (last (c.places-in-5.ensures i) (c.places-in-5-2.ensures i)) 64)
    ∙ in-mode a.lanes a.n a.halved 5 _ (λ k. last-used k a.halved a.lanes a.n) c.in-5.is

pub returns-in_default : goal.returns-in_default
returns-in_default c =
    let a = c.args in
    in-no-mode a.lanes a.n a.halved a.mode (omega arith)
