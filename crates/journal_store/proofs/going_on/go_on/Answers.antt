use Rattle.session_journal.specs.Reading.{read_place}
use Rattle.journal_store.proofs.going_on.go_on.Goals as goal

pub resume-requires : goal.resume-requires
resume-requires g c =
    let was = c.requires in
    c.what_is_read_may_be_opened.ensures c.args.id.0 was.bytes was.are (read_place c.args.read) was.read
