use Rattle.session_log.specs.Lent.{lent_entry}
use Rattle.session_log.proofs.TallyLaws.{number_told, few_told, some_told, short_told, learned_ok, learned_err}
use Rattle.session_log.proofs.tally.learn.Goals as goal

pub note-requires-clause-number : goal.note-requires-clause-number
note-requires-clause-number c = number_told c.args.tally.now c.args.log.now.entries _ c.stand_of-view.result c.requires.told (short_told _ _ c.requires.follows) c.stand_of-view.ensures

pub note-requires-clause-few : goal.note-requires-clause-few
note-requires-clause-few c = few_told c.args.tally.now c.args.log.now.entries c.requires.told (short_told _ _ c.requires.follows)

pub note-requires-clause-some : goal.note-requires-clause-some
note-requires-clause-some c = some_told c.args.tally.now c.args.log.now.entries (lent_entry c.args.log.now.entries c.args.entry.now) c.requires.told c.requires.follows

pub returns-clause-err : goal.returns-clause-err
returns-clause-err c = learned_err c.note.result c.args.tally.now c.note.new.tally c.args.log.now.entries c.requires.told c.note.ensures.err

pub returns-clause-ok : goal.returns-clause-ok
returns-clause-ok c = learned_ok c.note.result c.args.tally.now c.note.new.tally c.args.log.now.entries (lent_entry c.args.log.now.entries c.args.entry.now) c.stand_of-view.result c.requires.told c.requires.follows c.stand_of-view.ensures c.note.ensures.time c.note.ensures.views_here c.note.ensures.stands
