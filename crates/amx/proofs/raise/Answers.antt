use mathlib.Core.Path.{◌∙◌}
use Prim.Native.Nat.{◌+◌}
use Rattle.isa.proofs.Registers.{count-stored}
use Rattle.amx.proofs.raise.Goals as goal

pub returns : goal.returns
returns c =
    let a = c.args in
    c.put.ensures ∙ count-stored a.state.now (a.count + 1) c.requires.0
