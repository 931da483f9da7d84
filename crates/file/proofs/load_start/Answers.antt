use native.Mathlib.Omega.{arith}
use mathlib.Core.Path.{sym, ◌∙◌}
use lib.Seq.{length-take-le}
use Rattle.file.proofs.States.{load-part}
use Rattle.file.proofs.load_start.Goals as goal

pub slice_bounds-copy_bytes-end-2 : goal.slice_bounds-copy_bytes-end-2
slice_bounds-copy_bytes-end-2 c = sym (length-take-le 5120 c.args.state.now (omega arith))

pub copy_bytes-requires : goal.copy_bytes-requires
copy_bytes-requires c = (omega (arith, c.contents_length.ensures), omega (arith, length-take-le 5120 c.args.state.now (omega arith)))

pub returns : goal.returns
returns c =
    let a = c.args in
    c.put.ensures
    ∙ load-part a.head.now a.state.now c.copy_bytes.new.out c.contents_length.result c.if-state-ne5128.false
    c.contents_length.ensures.0 c.copy_bytes.ensures
