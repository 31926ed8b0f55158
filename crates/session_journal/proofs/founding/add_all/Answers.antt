use Rattle.session_log.specs.Stored.{plain_stored}
use Rattle.session_journal.proofs.FoundingLaws.{adds_all}
use Rattle.session_journal.proofs.founding.add_all.Goals as goal

pub returns : goal.returns
returns c =
    adds_all c.args.draft.now c.add_entries.new.draft c.add_horizon.new.draft c.add_kept.new.draft (plain_stored c.args.stored.now) c.add_kept.result c.in_ok-add_entries.ensures
    (rw c.last_time.ensures at c.in_ok-add_horizon.ensures) (rw c.as_ref.ensures.value at c.add_kept.ensures)
