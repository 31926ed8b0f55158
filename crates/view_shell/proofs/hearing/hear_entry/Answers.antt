use Rattle.std.proofs.Common.{◌≡◌, Bool, refl, ap, sym, ◌∙◌}
use Rattle.view_shell.specs.declared.ending.ViewEnd.TheVariants as ending
use Rattle.view_shell.specs.Phases.{ToSee, Receiving, after_entry, bad_base}
use Rattle.view_shell.specs.Viewers.{viewer}
use Rattle.view_shell.specs.Hearing.{HeardPhase, voted_phase}
use Rattle.view_shell.proofs.Going.{goes_and_stops, goes_to, handed_on, link_acts_behind, link_wants, reaches_end}
use Rattle.view_shell.proofs.Hearings.{stopped_base, stopped_end}
use Rattle.view_shell.proofs.Voting.{heard_for_entry}
use Rattle.view_shell.specs.declared.watcher.Watcher.{Watcher}
use Rattle.std.proofs.Common.{arith}
use Rattle.view_shell.proofs.hearing.hear_entry.Goals as goal

pub returns-in-Err-End-clause-talk : goal.returns-in-Err-End-clause-talk
returns-in-Err-End-clause-talk g c address lines =
    let aim = ToSee c.args.at in
    stopped_end _ c.in-Err-End.field-0 c.in-Err-End.end (Receiving (viewer address c.args.watcher.now lines) aim) (viewer address c.hear.new.watcher lines) aim _ _ c.in-Err-End.field-0-is (c.in-Err-End.ensures.talk address lines aim)

pub returns-in-Err-BadBase-clause-talk : goal.returns-in-Err-BadBase-clause-talk
returns-in-Err-BadBase-clause-talk g c address lines =
    let aim = ToSee c.args.at in
    let from = Receiving (viewer address c.args.watcher.now lines) aim in
    let v = viewer address c.hear.new.watcher lines in
    reaches_end _ from (bad_base v aim) ending.Peer _ _
    (stopped_base _ c.in-Err-BadBase.field-0 from v aim _ _ c.in-Err-BadBase.field-0-is (c.in-Err-BadBase.ensures.talk address lines aim)) refl

pub returns-clause-talk : goal.returns-clause-talk
returns-clause-talk g c address lines =
    let aim = ToSee c.args.at in
    let from = Receiving (viewer address c.args.watcher.now lines) aim in
    let v = viewer address c.hear.new.watcher lines in
    let u = viewer address c.vote_if.new.watcher lines in
    let comes = c.brings_entry-comes.result in
    goes_to _ from (HeardPhase v aim c.in-Ok.frame) (voted_phase u c.args.at comes) c.args.link.now c.hear.new.link
    (heard_for_entry v c.args.at c.in-Ok.frame ∙ ap (λ (b : Bool). after_entry b v c.args.at) (sym c.brings_entry-comes.ensures) ∙ c.in_ok-vote_if.ensures.voted address lines)
    (c.in-Ok.ensures.talk address lines aim)

pub returns-in_err-vote_if-clause-talk : goal.returns-in_err-vote_if-clause-talk
returns-in_err-vote_if-clause-talk g c address lines =
    let aim = ToSee c.args.at in
    let from = Receiving (viewer address c.args.watcher.now lines) aim in
    let v = viewer address c.hear.new.watcher lines in
    rw (handed_on c.from_residual.result c.in_err-vote_if.field-0.0 c.from_residual.ensures.1)
    (goes_and_stops _ (link_acts_behind _) from (HeardPhase v aim c.in-Ok.frame) c.in_err-vote_if.field-0.0 c.args.link.now c.hear.new.link c.hear.new.link
    (c.in-Ok.ensures.talk address lines aim) (link_wants _ _ _ _ c.in_err-vote_if.ensures.want))

pub vote_if-requires-clause-room : goal.vote_if-requires-clause-room
vote_if-requires-clause-room g c =
    let same : c.hear.new.watcher.published ≡ c.args.watcher.now.published = ap (λ (w : Watcher). w.published) c.hear.ensures.kept in
    let room = c.requires.room in
    omega (arith, same, room)

pub returns-clause-count : goal.returns-clause-count
returns-clause-count g c =
    let same : c.hear.new.watcher.published ≡ c.args.watcher.now.published = ap (λ (w : Watcher). w.published) c.hear.ensures.kept in
    let count = c.in_ok-vote_if.ensures.count in
    omega (arith, same, count)
