use Rattle.std.proofs.Common.{◌≡◌, [], Option, refl, ap, sym, ◌∙◌}
use Rattle.view_shell.specs.declared.ending.ViewEnd.TheVariants as ending
use Rattle.view_shell.specs.declared.hearing.SnapAnswer.{SnapAnswer}
use Rattle.view_shell.specs.Phases.{Viewer, ToSnap, Receiving, bad_base, go_on}
use Rattle.view_shell.specs.Viewers.{viewer}
use Rattle.view_shell.specs.Hearing.{HeardPhase, answer_in, answered_phase}
use Rattle.view_shell.proofs.Going.{goes_and_stops, goes_on, goes_to, handed_on, link_acts_behind, reaches_end}
use Rattle.view_shell.proofs.Hearings.{answer_goes, answer_phase, behind_answer, stopped_base, stopped_end}
use Rattle.view_shell.proofs.Readiness.{viewer_sent}
use Rattle.view_shell.proofs.hearing.hear_answer.Goals as goal

pub returns-in-Err-End-clause-talk : goal.returns-in-Err-End-clause-talk
returns-in-Err-End-clause-talk g c address lines =
    stopped_end _ c.in-Err-End.field-0 c.in-Err-End.end (Receiving (viewer address c.args.watcher.now lines) ToSnap) (viewer address c.hear.new.watcher lines) ToSnap _ _ c.in-Err-End.field-0-is (c.in-Err-End.ensures.talk address lines ToSnap)

pub returns-in-Err-BadBase-clause-talk : goal.returns-in-Err-BadBase-clause-talk
returns-in-Err-BadBase-clause-talk g c address lines =
    let from = Receiving (viewer address c.args.watcher.now lines) ToSnap in
    let v = viewer address c.hear.new.watcher lines in
    reaches_end _ from (bad_base v ToSnap) ending.Peer _ _
    (stopped_base _ c.in-Err-BadBase.field-0 from v ToSnap _ _ c.in-Err-BadBase.field-0-is (c.in-Err-BadBase.ensures.talk address lines ToSnap)) refl

pub returns-clause-talk : goal.returns-clause-talk
returns-clause-talk g c address lines =
    let from = Receiving (viewer address c.args.watcher.now lines) ToSnap in
    let v = viewer address c.hear.new.watcher lines in
    let u = viewer address c.stay_alive.new.watcher lines in
    let found : c.answer_in-found.result ≡ answer_in c.in-Ok.frame = c.answer_in-found.ensures in
    goes_on _ (link_acts_behind _) from (go_on v [] (behind_answer c.answer_in-found.result)) (answered_phase u c.answer_in-found.result) c.args.link.now c.hear.new.link c.stay_alive.new.link
    (goes_to _ from (HeardPhase v ToSnap c.in-Ok.frame) (go_on v [] (behind_answer c.answer_in-found.result)) c.args.link.now c.hear.new.link
    (answer_phase v c.in-Ok.frame ∙ ap (λ (a : Option SnapAnswer). go_on v [] (behind_answer a)) (sym found)) (c.in-Ok.ensures.talk address lines ToSnap))
    (goes_to _ (go_on v [] (behind_answer c.answer_in-found.result)) (answered_phase (record v { receives = u.receives }) c.answer_in-found.result) (answered_phase u c.answer_in-found.result) c.hear.new.link c.stay_alive.new.link
    (ap (λ (one : Viewer). answered_phase one c.answer_in-found.result) (viewer_sent address lines c.hear.new.watcher c.stay_alive.new.watcher c.stay_alive.ensures.kept))
    (answer_goes _ v u.receives c.hear.new.link c.stay_alive.new.link c.answer_in-found.result c.in_ok-stay_alive.ensures.talk))

pub returns-in_err-stay_alive-clause-talk : goal.returns-in_err-stay_alive-clause-talk
returns-in_err-stay_alive-clause-talk g c address lines =
    let from = Receiving (viewer address c.args.watcher.now lines) ToSnap in
    let v = viewer address c.hear.new.watcher lines in
    rw (handed_on c.from_residual.result c.in_err-stay_alive.field-0.0 c.from_residual.ensures.1)
    (goes_and_stops _ (link_acts_behind _) from (go_on v [] (behind_answer (answer_in c.in-Ok.frame))) c.in_err-stay_alive.field-0.0 c.args.link.now c.hear.new.link c.stay_alive.new.link
    (goes_to _ from (HeardPhase v ToSnap c.in-Ok.frame) (go_on v [] (behind_answer (answer_in c.in-Ok.frame))) c.args.link.now c.hear.new.link (answer_phase v c.in-Ok.frame) (c.in-Ok.ensures.talk address lines ToSnap))
    (c.in_err-stay_alive.ensures.talk v [] (behind_answer (answer_in c.in-Ok.frame)) refl))
