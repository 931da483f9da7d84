use mathlib.Core.Path.{ap, ◌∙◌}
use Prim.Native.Nat.{ℕ}
use lib.Seq.{sets}
use Rattle.number.specs.Bytes.{bytes_of}
use Rattle.file.proofs.States.{store-part}
use Rattle.file.proofs.put_checkpoint.Goals as goal

pub returns : goal.returns
returns c =
    let a = c.args in
    store-part a.out.now a.state.now a.consumed c.in-Ok.ensures.0 c.if-state-ne5128.false c.if-out-lt5132.false c.put.new.s c.copy_bytes.new.out
    (c.put.ensures ∙ ap (λ (n : ℕ). sets a.out.now 0 (bytes_of 4 n)) c.in-Ok.ensures.1) c.copy_bytes.ensures
