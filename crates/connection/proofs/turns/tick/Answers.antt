use Rattle.std.proofs.Common.{ap, refl, ◌∙◌}
use Rattle.connection.specs.Phases.{Leaving, Ticking}
use Rattle.connection.proofs.Talking.{asks_nothing, asks_tick, talks_to}
use Rattle.connection.proofs.turns.tick.Goals as goal

pub returns-in-Ok-clause-talk : goal.returns-in-Ok-clause-talk
returns-in-Ok-clause-talk g c quiets link = asks_tick _ _ c.args.cursor.now quiets c.now-now.result c.in-Ok.field-0 c.args.pass.now c.ask.new.pass link (c.now-now.ensures, tt) c.in-Ok.ensures.asked c.ask.ensures.sees

pub returns-clause-talk : goal.returns-clause-talk
returns-clause-talk g c quiets link =
    talks_to _ _ _ _ _ _ _ (c.leave_at.ensures ∙ ap (Leaving c.args.cursor.now) c.ended_by.ensures)
    (asks_nothing _ _ c.in-Err.fault (Ticking c.args.cursor.now quiets) _ c.args.pass.now c.ask.new.pass link c.in-Err.ensures.asked c.ask.ensures.sees (tt, c.in-Err.ensures.unkept) refl refl refl)
