use Prim.Native.Nat.{ℕ}
use lib.ListN.{replicate, length-replicate}
use native.Mathlib.Omega.{arith}
use Rattle.disk.proofs.Files.{saved_told}
use Rattle.disk.proofs.print_again.Goals as goal

pub print_runs-requires : goal.print_runs-requires
print_runs-requires c =
    let a = c.args in
    let p = c.requires in
    let number = c.consumed-consumed in (
      saved_told a.head.now a.last.now (replicate 5128 0) c.load_saved.new.state a.n number.result _ number.ensures
          (length-replicate {A = ℕ} 5128 0) c.load_saved.ensures p.0,
      omega (arith, number.ensures, p.1),
      p.2,
      p.4,
    )
