use Rattle.std.proofs.Common.{ap, refl, ◌∙◌}
use Rattle.connection.specs.Phases.{Asking, Leaving}
use Rattle.connection.proofs.Callers.{reply_fits_at}
use Rattle.connection.proofs.Fitting.{answer_fits_at}
use Rattle.connection.proofs.Talking.{asks_frame, asks_nothing, talks_to}
use Rattle.connection.proofs.turns.make.Goals as goal

pub answer-frame-requires-clause-replied : goal.answer-frame-requires-clause-replied
answer-frame-requires-clause-replied g c = let told = c.in-Ok.ensures.reply in reply_fits_at _ told.0 _ c.args.request.now c.in-Ok.reply told.1

pub answer-requires : goal.answer-requires
answer-requires g c =
    let told = c.in-Ok.ensures.reply in
    answer_fits_at _ told.0 _ c.args.request.now c.in-Ok.reply c.answer-frame.result told.1 c.answer-frame.ensures

pub returns-in-Err-clause-talk : goal.returns-in-Err-clause-talk
returns-in-Err-clause-talk g c =
    talks_to _ _ _ _ _ _ _ (c.leave_at.ensures ∙ ap (Leaving c.args.cursor.now) c.ended_by.ensures)
    (asks_nothing _ _ c.in-Err.fault (Asking c.args.cursor.now c.args.request.now) _ c.args.pass.now c.ask.new.pass _ c.in-Err.ensures.asked c.ask.ensures.sees (tt, c.in-Err.ensures.unkept) refl refl refl)

pub returns-clause-talk : goal.returns-clause-talk
returns-clause-talk g c =
    asks_frame _ _ c.args.cursor.now c.args.request.now c.in-Ok.reply c.end_in.result c.answer-frame.result c.answer.result _ c.args.pass.now c.ask.new.pass _ _ c.in-Ok.ensures.asked c.ask.ensures.sees (c.requires.timely c.in-Ok.reply, tt)
    c.end_in.ensures c.answer-frame.ensures (c.answer.ensures _)
