use Rattle.std.proofs.Common.{sym}
use Rattle.std.proofs.lemmas.Result.{err_from_is_err_and}
use Rattle.byte_fields.proofs.Loops.{goes_on, ends, is_done}
use Rattle.session_log.specs.Lent.{lent_entry}
use Rattle.session_log.specs.Reading.{entry_after}
use Rattle.session_log.proofs.reading.entries_of.Goals as goal

pub returns-in_err-entry-clause-read : goal.returns-in_err-entry-clause-read
returns-in_err-entry-clause-read c =
    let none = sym (rw c.in_err-entry.ensures.ok_part at c.next_of.ensures.read) in
    let fault = err_from_is_err_and c.from_residual.result c.from_residual.ensures.1 in
    rw fault.1 (λ _. ends entry_after c.loop.log.entries c.args.count c.loop.counter c.loop.rest.now _ c.loop-test.true none c.loop.invariant.same)

pub loop-preserved : goal.loop-preserved
loop-preserved c =
    let some = sym (rw c.in_ok-entry.ensures.ok_part at c.next_of.ensures.read) in
    record {
      told = rw c.in_ok-append.ensures.ok c.in_ok-learn.ensures.ok;
      same = rw c.in_ok-append.ensures.ok (goes_on entry_after c.loop.log.entries c.args.count c.loop.counter c.loop.rest.now (lent_entry c.loop.log.entries c.in_ok-entry.entry) c.in_ok-entry.after.now _ c.loop-test.true some c.loop.invariant.same);
    }

pub returns-clause-read : goal.returns-clause-read
returns-clause-read c = is_done entry_after c.loop.log.entries c.args.count c.loop.counter c.loop.rest.now _ c.loop-test.false c.loop.invariant.same
