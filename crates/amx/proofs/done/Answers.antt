use mathlib.Core.Path.{sym}
use Prim.Native.Nat.{◌+◌}
use Rattle.isa.specs.Call.{effect_of}
use Rattle.isa.proofs.Registers.{length-registers}
use Rattle.amx.proofs.Table.{done-as}
use Rattle.amx.proofs.done.Goals as goal

pub slice_bounds-run-end-2 : goal.slice_bounds-run-end-2
slice_bounds-run-end-2 c =
    sym (length-registers c.args.state.now c.requires.0)

pub returns : goal.returns
returns c =
    let a = c.args in
    done-as (effect_of a.call) a.state.now c.run-bytes.new.registers c.raise.new.state c.run-bytes.result
    (a.count + 1) c.requires.0 c.run-bytes.ensures c.raise.ensures
