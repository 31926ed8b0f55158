use Rattle.std.proofs.Common.{ap, refl, sym, ◌∙◌}
use Rattle.join_sync.specs.Answers.{first_cursor}
use Rattle.connection.specs.Phases.{Joining, Over}
use Rattle.connection.proofs.Callers.{join_fits, joined_so, reply_fits_at}
use Rattle.connection.proofs.Fitting.{join_fits_at}
use Rattle.connection.proofs.Talking.{asks_join, asks_nothing}
use Rattle.connection.proofs.opening.join.Goals as goal

pub returns-in-Err-clause-talk : goal.returns-in-Err-clause-talk
returns-in-Err-clause-talk g c =
    asks_nothing _ _ c.in-Err.fault (Joining c.args.request.now) _ c.args.pass.now c.ask.new.pass _ c.in-Err.ensures.asked c.ask.ensures.sees (tt, c.in-Err.ensures.unkept) refl refl (ap Over (sym c.ended_by.ensures))

pub opened-cursor-requires : goal.opened-cursor-requires
opened-cursor-requires g c =
    let told = c.in-Ok.ensures.reply in
    join_fits c.args.request.now c.in-Ok.reply c.requires.join (reply_fits_at _ told.0 _ c.args.request.now c.in-Ok.reply told.1)

pub greet-requires : goal.greet-requires
greet-requires g c =
    let told = c.in-Ok.ensures.reply in
    join_fits_at _ told.0 _ c.args.request.now c.in-Ok.reply c.opened-cursor.result.1 c.requires.join told.1 c.opened-cursor.ensures.answer

pub returns-clause-standing : goal.returns-clause-standing
returns-clause-standing g c =
    let told = c.in-Ok.ensures.reply in
    joined_so c.greet.result c.opened-cursor.result.0 _ told.0 _ c.args.request.now c.in-Ok.reply c.requires.join told.1
    (c.opened-cursor.ensures.cursor ∙ ap (λ view. first_cursor view c.in-Ok.reply) c.joined_view.ensures) c.greet.ensures.cursor

pub returns-clause-talk : goal.returns-clause-talk
returns-clause-talk g c =
    asks_join _ _ c.args.request.now c.in-Ok.reply c.opened-cursor.result.0 c.opened-cursor.result.1 c.greet.result _ c.args.pass.now c.ask.new.pass _ _ c.in-Ok.ensures.asked c.ask.ensures.sees (c.requires.timely c.in-Ok.reply, tt)
    (c.opened-cursor.ensures.cursor ∙ ap (λ view. first_cursor view c.in-Ok.reply) c.joined_view.ensures) c.opened-cursor.ensures.answer (c.greet.ensures.talk _)
