use Rattle.std.proofs.Common.{◌≡◌, ◌+◌, ◌<◌, List, ℕ, arith, sym, ap, ◌∙◌}
use Rattle.std.specs.Prelude.{Some}
use Rattle.file.specs.declared.Cursor.{Cursor}
use Rattle.file.specs.File.{call_at, cursor}
use Rattle.reader.specs.declared.Reader.{Reader}
use Rattle.reader.specs.Reading.{found_as, reader_at, moved}
use Rattle.reader.proofs.Records.{moved_on}
use Rattle.steps.proofs.Turns.{found-there, ran-none, ran-more}
use Rattle.steps.proofs.run_records.Goals as goal

pub loop-i-init : goal.loop-i-init
loop-i-init c = record {
  bytes = ap (λ (r : Reader). r.steps.now) c.new-reader.ensures;
  place = ap (λ (r : Reader). r.cursor) c.new-reader.ensures;
  ran = ran-none c.args.steps.now c.args.state.now c.args.out.now c.args.first;
}

-- The reader moves on behind record i, and what was found there is run.
pub loop-i-preserved : goal.loop-i-preserved
loop-i-preserved c =
    let a = c.args in
    let i = c.loop-i.i in
    let r = c.loop-i.reader in
    let at = c.loop-i.invariant in
    let less : i < a.n = c.loop-i-test.true in
    let on : c.next.new.self ≡ reader_at r.steps (cursor (i + 1) a.n) =
    c.next.ensures.steps.1 ∙ ap (λ (k : Cursor). moved (reader_at r.steps k)) at.place ∙ moved_on r.steps i a.n less (omega arith) in
    let there : (found_as r.steps.now r.cursor).0 ≡ Some (call_at a.steps.now i) =
    found-there a.steps.now i a.n r at.bytes at.place less (omega arith) in
    record {
      bytes = ap (λ (x : Reader). x.steps.now) on ∙ at.bytes;
      place = ap (λ (x : Reader). x.cursor) on;
      ran = ran-more a.steps.now a.state.now a.out.now a.first i at.ran c.in-Some.step (sym c.in-Some.is ∙ c.next.ensures.steps.0 ∙ there)
          c.run_step-at.ensures.state_after c.run_step-at.ensures.short;
    }

-- It is at a record, as i is below n.
pub returns-in_default : goal.returns-in_default
returns-in_default c =
    let a = c.args in
    let at = c.loop-i.invariant in
    let there = found-there a.steps.now c.loop-i.i a.n c.loop-i.reader at.bytes at.place c.loop-i-test.true (omega arith) in
    let none = c.next.ensures.steps.0 in
    cc
