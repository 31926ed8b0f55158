use Rattle.std.proofs.Common.{ap, refl, ◌∙◌}
use Rattle.connection.specs.Phases.{Leaving, Pulling}
use Rattle.connection.proofs.Callers.{batch_at, pulled_so}
use Rattle.connection.proofs.Fitting.{batch_fits_at}
use Rattle.connection.proofs.Talking.{asks_nothing, asks_pull, talks_to}
use Rattle.connection.proofs.turns.pull.Goals as goal
use Rattle.join_sync.specs.Batches.{most_pulled}

pub hand_out-requires-clause-batch : goal.hand_out-requires-clause-batch
hand_out-requires-clause-batch g c = let told = c.in-Ok.ensures.reply in batch_at _ told.0 _ c.args.cursor.now most_pulled c.in-Ok.batch c.requires.standing told.1

pub hand_out-requires-clause-fit : goal.hand_out-requires-clause-fit
hand_out-requires-clause-fit g c = let told = c.in-Ok.ensures.reply in batch_fits_at _ told.0 _ c.args.cursor.now most_pulled c.in-Ok.batch told.1

pub returns-in-Err-clause-talk : goal.returns-in-Err-clause-talk
returns-in-Err-clause-talk g c quiets =
    talks_to _ _ _ _ _ _ _ (c.leave_at.ensures ∙ ap (Leaving c.args.cursor.now) c.ended_by.ensures)
    (asks_nothing _ _ c.in-Err.fault (Pulling c.args.cursor.now quiets) _ c.args.pass.now c.ask.new.pass _ c.in-Err.ensures.asked c.ask.ensures.sees (tt, c.in-Err.ensures.unkept) refl refl refl)

pub returns-clause-talk : goal.returns-clause-talk
returns-clause-talk g c quiets = asks_pull _ _ c.args.cursor.now quiets c.in-Ok.batch c.hand_out.result _ c.args.pass.now c.ask.new.pass _ _ c.in-Ok.ensures.asked c.ask.ensures.sees (tt, tt) (c.hand_out.ensures.talk _ quiets)

pub returns-clause-standing : goal.returns-clause-standing
returns-clause-standing g c =
    let told = c.in-Ok.ensures.reply in
    pulled_so c.hand_out.result _ told.0 _ c.args.cursor.now c.hand_out.new.cursor most_pulled c.in-Ok.batch c.requires.standing told.1 c.hand_out.ensures.cursor
