use Rattle.std.proofs.Common.{[], ◌∷◌, refl, ap, sym, ◌∙◌}
use Rattle.join_sync.proofs.Replies.{request_fits}
use Rattle.connection.specs.Phases.{Asking, Taking, Ticking, acted_phase, read_phase, telling_phase}
use Rattle.connection.proofs.Fitting.{act_fits}
use Rattle.connection.proofs.Talking.{act_timely, reads_either}
use Rattle.connection.proofs.turns.act.Goals as goal

pub make-requires-clause-frame : goal.make-requires-clause-frame
make-requires-clause-frame g c = request_fits c.args.cursor.now c.args.frame c.now-now.result c.in-Call.request (sym c.act.ensures ∙ c.in-Call.is)

pub make-requires-clause-timely : goal.make-requires-clause-timely
make-requires-clause-timely g c given = act_timely _ c.args.cursor.now c.args.frame c.now-now.result c.in-Call.request given c.now-now.ensures (sym c.act.ensures ∙ c.in-Call.is)

pub tell-requires : goal.tell-requires
tell-requires g c = act_fits c.args.cursor.now c.args.frame c.now-now.result c.in-Answer.frame (sym c.act.ensures ∙ c.in-Answer.is)

pub returns-in-Call-clause-talk : goal.returns-in-Call-clause-talk
returns-in-Call-clause-talk g c bytes read =
    reads_either _ _ c.now-now.result (Taking c.args.cursor.now bytes) (Asking c.args.cursor.now c.in-Call.request) c.make.result _ _ _ refl refl
    (ap (λ frame. read_phase c.args.cursor.now frame c.now-now.result) read ∙ ap (acted_phase c.args.cursor.now) (sym c.act.ensures ∙ c.in-Call.is)) c.make.ensures.talk

pub returns-in-Answer-clause-talk : goal.returns-in-Answer-clause-talk
returns-in-Answer-clause-talk g c bytes read =
    reads_either _ _ c.now-now.result (Taking c.args.cursor.now bytes) (telling_phase c.args.cursor.now (c.in-Answer.frame ∷ []) (Ticking c.args.cursor.now 0)) c.tell.result
    (λ _. Ticking c.args.cursor.now 0) _ _ refl refl
    (ap (λ frame. read_phase c.args.cursor.now frame c.now-now.result) read ∙ ap (acted_phase c.args.cursor.now) (sym c.act.ensures ∙ c.in-Answer.is)) (c.tell.ensures _ [] (Ticking c.args.cursor.now 0))
