use Rattle.std.proofs.Common.{refl, ap, sym, ◌∙◌}
use Rattle.system_plain.specs.Turn.{open_act}
use Rattle.connection.specs.Phases.{Beginning, Joining, entered_phase, opened_phase, refused_phase}
use Rattle.connection.proofs.Callers.{first_is_join}
use Rattle.connection.proofs.Talking.{first_timely, reads_either, reads_on}
use Rattle.connection.proofs.opening.enter.Goals as goal

pub join-requires-clause-join : goal.join-requires-clause-join
join-requires-clause-join g c = first_is_join c.args.frame.now c.args.service.now.id c.now-now.result c.in-Ok.request (sym c.open.ensures ∙ c.in-Ok.is)

pub join-requires-clause-timely : goal.join-requires-clause-timely
join-requires-clause-timely g c given = first_timely _ c.args.frame.now c.args.service.now.id c.now-now.result c.in-Ok.request given c.now-now.ensures (sym c.open.ensures ∙ c.in-Ok.is)

pub returns-in-Ok-clause-talk : goal.returns-in-Ok-clause-talk
returns-in-Ok-clause-talk g c bytes read =
    reads_either _ _ c.now-now.result (Beginning bytes) (Joining c.in-Ok.request) c.join.result _ _ _ refl refl
    (ap (λ frame. opened_phase c.args.service.now.id frame c.now-now.result) read ∙ ap (λ first. entered_phase (open_act c.args.frame.now first)) (sym c.open.ensures ∙ c.in-Ok.is)) c.join.ensures.talk

pub returns-in-Err-clause-talk : goal.returns-in-Err-clause-talk
returns-in-Err-clause-talk g c bytes read =
    reads_on _ _ c.now-now.result (Beginning bytes) (refused_phase c.frame.result) _ _ _ refl refl
    (ap (λ frame. opened_phase c.args.service.now.id frame c.now-now.result) read
    ∙ (ap (λ first. entered_phase (open_act c.args.frame.now first)) (sym c.open.ensures ∙ c.in-Err.is) ∙ ap refused_phase (sym c.frame.ensures))) (c.refuse.ensures _)
