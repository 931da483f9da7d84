use lib.ListN.{take}
use native.Mathlib.Omega.{arith}
use Rattle.disk.proofs.Reading.{part_most}
use Rattle.disk.proofs.Writing.{run-says, run-turned}
use Rattle.disk.proofs.print_run.Goals as goal

pub write_run-requires : goal.write_run-requires
write_run-requires c =
    let a = c.args in
    let part = c.fill.new.buffer in
    let size = c.in_ok-size.size in
    let came = part_most part size a.part.now c.fill.auto.buffer c.in_ok-size.ensures c.requires.2 in
    let says = run-says a.head.now a.n a.i a.state.now a.at c.requires.0 c.requires.1 (omega arith) (take size part) came
    c.print_run-ran.result a.out.now c.print_run-ran.new.out c.requires.4 c.print_run-ran.ensures.2 c.print_run-ran.ensures.1
    in (says, c.requires.3)

pub returns : goal.returns
returns c =
    let a = c.args in
    let part = c.fill.new.buffer in
    let size = c.in_ok-size.size in
    let came = part_most part size a.part.now c.fill.auto.buffer c.in_ok-size.ensures c.requires.2 in
    run-turned a.head.now a.n a.i a.state.now a.at c.requires.0 c.requires.1 (omega arith) (take size part) came
    c.print_run-ran.result c.print_run-ran.new.state c.write_run.result c.print_run-ran.ensures.2 c.print_run-ran.ensures.0
    c.write_run.ensures
