use Rattle.std.proofs.Common.{◌≡◌, ◌+◌, ◌-◌, arith}
use Rattle.session_journal.proofs.FoundingLaws.{adds_next, fits_at}
use Rattle.session_journal.proofs.founding.add_entries.Goals as goal

pub add_entry-requires : goal.add_entry-requires
add_entry-requires c =
    let before : c.loop-place.place + 1 - 1 ≡ c.loop-place.place = omega arith in
    fits_at c.args.log.now.entries c.loop-place.place c.in_ok-entry.entry c.requires (rw before at c.in_ok-entry.ensures)

pub loop-place-preserved : goal.loop-place-preserved
loop-place-preserved c =
    let before : c.loop-place.place + 1 - 1 ≡ c.loop-place.place = omega arith in
    adds_next c.args.draft.now c.loop-place.draft c.add_entry.new.draft c.args.log.now.entries c.loop-place.place c.in_ok-entry.entry (rw before at c.in_ok-entry.ensures) c.loop-place.invariant c.in_ok-add_entry.ensures
