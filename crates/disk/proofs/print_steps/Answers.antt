use Prim.Native.Nat.{ℕ}
use lib.ListN.{replicate, length-replicate}
use native.Mathlib.Omega.{arith}
use Rattle.file.proofs.Heads.{head-base, head-most}
use Rattle.disk.proofs.Files.{start-told}
use Rattle.disk.proofs.Turns.{turned_on}
use Rattle.disk.proofs.print_steps.Goals as goal

pub print_runs-requires : goal.print_runs-requires
print_runs-requires c =
    let a = c.args in
    let p = c.requires in (
      start-told a.head.now a.n p.0 p.2 p.1 (replicate 5128 0) c.load_start.new.state (length-replicate {A = ℕ} 5128 0) c.load_start.ensures,
      omega arith,
      head-most a.head.now a.n p.0,
      p.3,
    )

pub print_end-requires : goal.print_end-requires
print_end-requires c =
    let on = turned_on c.args.head.now c.args.n c.in_ok-at.field-0 c.in-Continue.at c.args.n c.print_runs.new.state _ c.in-Continue.is c.in_ok-at.ensures in
    (on.0, head-base c.args.head.now c.args.n c.requires.0, omega (arith, on.1), omega (arith, c.print_runs.auto.out, c.requires.3))
