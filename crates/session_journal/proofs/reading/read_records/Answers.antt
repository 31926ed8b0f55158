use Rattle.std.proofs.Common.{◌≡◌, ◌-◌, ◌+◌, length, Ok, sym, subst, ap, ◌∙◌}
use Rattle.session_log.specs.Stored.{PlainStored, plain_stored}
use Rattle.session_journal.specs.Lent.{lent_change}
use Rattle.session_journal.specs.Frames.{Place, read_on}
use Rattle.session_journal.specs.State.{after_change, body_step}
use Rattle.session_journal.specs.Journal.{record_check, read_records}
use Rattle.session_journal.specs.Reading.{place_of}
use Rattle.session_journal.proofs.ReadingLaws.{one_more, no_more, all_read, no_record, not_now, comes}
use Rattle.session_journal.proofs.reading.read_records.Goals as goal

pub returns-in_default-clause-read : goal.returns-in_default-clause-read
returns-in_default-clause-read c =
    let at : Place PlainStored = place_of c.loop.stored c.loop.check c.loop.rest.now in
    c.read_of.ensures.read ∙ no_more record_check body_step (length c.args.bytes.now - c.loop.counter) at _ (no_record at c.in_default.ensures) c.loop.invariant.same

pub returns-then-not-took-clause-read : goal.returns-then-not-took-clause-read
returns-then-not-took-clause-read c =
    let at : Place PlainStored = place_of c.loop.stored c.loop.check c.loop.rest.now in
    let still : plain_stored c.take.new.stored ≡ plain_stored c.loop.stored = c.in_ok-took.ensures.left (ap Ok c.if-not-took.true) in
    let ends = not_now at (lent_change c.in-Some.change) c.in-Some.frame.check c.in-Some.frame.rest.now c.in-Some.ensures (sym c.if-not-took.true ∙ c.in_ok-took.ensures.may) in
    c.read_of-then-not-took.ensures.read
    ∙ ap (λ (s : PlainStored). record { state = s; check = c.loop.check; rest = c.loop.rest.now }) still
    ∙ no_more record_check body_step (length c.args.bytes.now - c.loop.counter) at _ ends c.loop.invariant.same

pub loop-preserved : goal.loop-preserved
loop-preserved c =
    let at : Place PlainStored = place_of c.loop.stored c.loop.check c.loop.rest.now in
    let after : PlainStored = after_change (plain_stored c.loop.stored) (lent_change c.in-Some.change) in
    let end : Place PlainStored = read_records c.args.first c.args.bytes.now in
    let next : Place PlainStored = record { state = after; check = c.in-Some.frame.check; rest = c.in-Some.frame.rest.now } in
    let family : PlainStored → Type 0 = λ s. read_on record_check body_step (length c.args.bytes.now - (c.loop.counter + 1)) (record { state = s; check = c.in-Some.frame.check; rest = c.in-Some.frame.rest.now }) ≡ end in
    let taken = comes at (lent_change c.in-Some.change) c.in-Some.frame.check c.in-Some.frame.rest.now c.in-Some.ensures (sym c.if-not-took.false ∙ c.in_ok-took.ensures.may) in
    record {
      told = c.in_ok-took.ensures.told (ap Ok c.if-not-took.false);
      same = subst family (sym (c.in_ok-took.ensures.took (ap Ok c.if-not-took.false)))
          (one_more record_check body_step (length c.args.bytes.now) c.loop.counter at next end c.loop-test.true taken c.loop.invariant.same);
    }

pub returns-clause-read : goal.returns-clause-read
returns-clause-read c =
    c.read_of-2.ensures.read
    ∙ all_read record_check body_step (length c.args.bytes.now) c.loop.counter (place_of c.loop.stored c.loop.check c.loop.rest.now) _ c.loop-test.false c.loop.invariant.same
