use Rattle.std.proofs.Common.{◌+◌, length}
use Rattle.number.specs.Bytes.{byte_at}
use Rattle.number.proofs.Fill.{Filling}
use Rattle.file.proofs.copy_bytes.Given as goal

abbrev pub invariant-loop-i : goal.invariant-loop-i
invariant-loop-i l = Filling 0 (λ k. byte_at l.source (l.from + k)) (length l.fn.out) l.out l.i
