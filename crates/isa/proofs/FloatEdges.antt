-- Floats at the edges, computed from the meaning.
-- Assumes nothing.
use mathlib.Core.Path.{◌≡◌, refl, ap, ◌∙◌}
use mathlib.Core.Bool.{Bool, true, false, ◌&&◌}
use mathlib.Core.List.{[], ◌∷◌, map}
use mathlib.Core.Logic.{◌⊎◌, inl, inr}
use native.Mathlib.Omega.{arith}
use lib.Dec.{T, lit<}
use Rattle.number.specs.Bytes.{number, byte_of}
use Rattle.float.specs.Floats.{added, subtracted, multiplied, negated, selected}
use Rattle.isa.specs.Operand.{bits}
use Rattle.isa.specs.Effect.{touches, new_lane, after, sum}
use Rattle.isa.specs.Enable.{mac16_enables, vecint_enables}
use Rattle.isa.specs.Vecint as Vecint
use Rattle.isa.specs.Vecfp as Vecfp
use Rattle.isa.specs.Fms64 as Fms64
use Rattle.isa.specs.Call.{Call, effect_of}
use Rattle.isa.specs.Answers.{own_answer, is_done}
use Rattle.isa.specs.Step.{done}
use Rattle.isa.specs.Swap.{Apart, BothAdd, enables}
use Rattle.isa.specs.Edges.{Edge}
use Rattle.isa.specs.Guards.{Pin, starting}
use Rattle.isa.specs.FloatEdges.{lane_pins, step_pins, place_pins, SumsMatter, SumsStay, sum_x, sum_y}
use Rattle.number.proofs.Tests.{true_is}
use Rattle.isa.proofs.Step.{own-due}
use Rattle.isa.proofs.Guards.{second, order_matters}

pub lanes-pinned : map (λ (p : Pin). p.gives) lane_pins ≡ map (λ (p : Pin). p.says) lane_pins
unfolding bits added subtracted multiplied negated selected Vecfp.alu Fms64.result
lanes-pinned = refl

pub steps_pinned : map (λ (p : Pin). p.gives) step_pins ≡ map (λ (p : Pin). p.says) step_pins
unfolding number byte_of bits touches new_lane after mac16_enables vecint_enables own_answer added subtracted multiplied negated selected
    Vecint.mode Vecint.stride Vecint.broadcasts
    Vecfp.format_of Vecfp.not_covered Vecfp.writes Vecfp.enabled Vecfp.on Vecfp.overrides Vecfp.x_offset Vecfp.y_offset Vecfp.x_bytes Vecfp.y_bytes
    Vecfp.x_index Vecfp.y_index Vecfp.x_of Vecfp.y_of Vecfp.alu Vecfp.result
    Fms64.on Fms64.x_lane Fms64.y_lane Fms64.result
steps_pinned = refl

pub places-pinned : map (λ (p : Edge). p.gives) place_pins ≡ map (λ (p : Edge). p.says) place_pins
unfolding number byte_of bits touches new_lane after sum mac16_enables vecint_enables own_answer negated
    Vecint.mode Vecint.stride Vecfp.format_of Vecfp.writes Vecfp.enabled Vecfp.on Fms64.on Fms64.x_lane Fms64.y_lane Fms64.result
places-pinned = refl

-- ---- two sums

pub sums_matter : SumsMatter
unfolding second number byte_of bits touches new_lane after vecint_enables own_answer added
    Vecint.mode Vecint.stride Vecint.broadcasts
    Vecfp.format_of Vecfp.not_covered Vecfp.writes Vecfp.enabled Vecfp.on Vecfp.overrides Vecfp.x_offset Vecfp.y_offset Vecfp.x_bytes Vecfp.y_bytes
    Vecfp.x_index Vecfp.y_index Vecfp.x_of Vecfp.y_of Vecfp.alu Vecfp.result
sums_matter =
    order_matters _ _ (starting (0 ∷ 0 ∷ 128 ∷ 63 ∷ []) (0 ∷ 0 ∷ 128 ∷ 191 ∷ []) (0 ∷ 0 ∷ 128 ∷ 75 ∷ [])) refl refl refl 1024 (lit< tt)
    (λ e. omega (arith, e))

pub sums_stay : SumsStay
unfolding bits touches vecint_enables own_answer Vecint.mode Vecint.stride Vecfp.format_of Vecfp.not_covered Vecfp.writes Vecfp.enabled Vecfp.on
sums_stay s size ((left, either), more) = go either
  where
    -- both are done, and touch the first byte of Z
    touched : (c : Call) → is_done (own_answer c) ≡ true → touches (effect_of c) 1024 ≡ true → T (enables s c 1024)
    touched c d t =
        true_is ((λ i. is_done (own-due c s size (omega (arith, left size)) i) && t i) ∙ ap (λ (b : Bool). b && true) d)

    no : (d : Bool) → T (d && false) → ⊥
    no true t = t
    no false t = t

    go : Apart s sum_x sum_y ⊎ BothAdd s sum_x sum_y → ⊥
    go (inl a) = a.apart 1024 (omega (arith, size)) (touched sum_x refl refl) (touched sum_y refl refl)
    go (inr b) = no (done s sum_x) b.first
