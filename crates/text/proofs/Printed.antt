-- The samples, computed.
-- Assumes nothing.
use mathlib.Core.Path.{refl}
use Rattle.text.specs.Lines.{digits, hex, answer_text, step_line, z_line, steps_line, refused_line}
use Rattle.text.specs.Sample.{Samples}

pub samples : Samples
unfolding digits hex answer_text step_line z_line steps_line refused_line
samples = record { done = refl; no-op = refl; refused = refl; row = refl; steps = refl; file = refl; largest = refl }
