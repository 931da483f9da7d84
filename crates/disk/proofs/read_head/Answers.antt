use mathlib.Core.Path.{◌≡◌, sym, ◌∙◌}
use mathlib.Core.List.{◌++◌}
use native.Mathlib.Omega.{arith}
use lib.ListN.{length, drop}
use lib.Seq.{length-take-le}
use Rattle.disk.proofs.Reading.{head_short, head_long}
use Rattle.disk.proofs.read_head.Goals as goal

pub slice_bounds-fill-end-2 : goal.slice_bounds-fill-end-2
slice_bounds-fill-end-2 c = sym (length-take-le 5148 c.args.head.now (omega (arith, c.requires)))

pub slice_bounds-has_checkpoint-end-2 : goal.slice_bounds-has_checkpoint-end-2
slice_bounds-has_checkpoint-end-2 c =
    let buffer = c.fill.new.buffer ++ drop 5148 c.args.head.now in
    let size : length buffer ≡ 5160 = omega (arith, c.requires) in
    sym (length-take-le 5148 buffer (omega (arith, size)))

pub returns-then-not-has_checkpoint : goal.returns-then-not-has_checkpoint
returns-then-not-has_checkpoint c =
    let buffer = c.fill.new.buffer ++ drop 5148 c.args.head.now in
    let size : length buffer ≡ 5160 = omega (arith, c.requires) in
    head_short buffer 5148 size (omega arith)

pub returns : goal.returns
returns c =
    let buffer = c.fill.new.buffer ++ drop 5148 c.args.head.now in
    let size : length buffer ≡ 5160 = omega (arith, c.requires) in
    head_long buffer c.fill-2.new.buffer c.in_ok-more.more size
    (sym c.has_checkpoint.ensures ∙ c.if-not-has_checkpoint.false) c.fill-2.auto.buffer c.in_ok-more.ensures
