use Rattle.state.proofs.Numbers.{words_of}
use Rattle.isa.specs.State.{x_base, y_base, loaded}
use mathlib.Core.Bool.{cond}
use mathlib.Core.Path.{refl, sym, ◌∙◌}
use Rattle.fms64.proofs.Plain.{map-same}
use Rattle.fms64.proofs.patterns.Goals as goal

pub returns : goal.returns
returns c =
    let a = c.args in
    words_of 8 8 refl (loaded a.state.now (cond a.y y_base x_base) a.offset)
    c.load-bytes.result c.words.result c.load-bytes.ensures (sym (map-same c.words.result) ∙ c.words.ensures)
