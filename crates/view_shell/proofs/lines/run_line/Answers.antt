use Rattle.std.proofs.Common.{◌≡◌, ℕ, [], ◌∷◌, refl, sym, ap, ◌∙◌}
use Rattle.run_steps.specs.Outside.{Acts, links_tell, output_tells, link_side, link_side_tells}
use Rattle.model_value.specs.Payload.{payload_spelling}
use Rattle.model_value.specs.View.{plain}
use Rattle.replica.specs.View.{worlds_of}
use Rattle.replica_plain.specs.Calls.{snap_frame, unsent}
use Rattle.view_bridge.specs.Topics.{subscribes}
use Rattle.view_script.specs.PlainLine.{plain_line}
use Rattle.view_script.specs.declared.line.ViewLine.{ViewLine}
use Rattle.view_shell.specs.declared.ending.ViewEnd.TheVariants as ending
use Rattle.view_shell.specs.Phases.{Viewer, Over, Receives, Sending, ToReach, ToSettle, ToCatchUp, ToSnap, finish, after_giving, leave_session, after_publish, receive, run, send_all, show_world, vote_on}
use Rattle.view_shell.specs.ViewText.{mark_line}
use Rattle.view_shell.specs.Viewers.{viewer}
use Rattle.view_shell.proofs.Flowing.{done_behind, done_printing, done_showing, flow_from}
use Rattle.view_shell.proofs.Going.{all_acts_behind, goes_from, goes_in_link_side, handed_on, stops_from, stops_in_link_side, wants}
use Rattle.view_shell.proofs.Readiness.{viewer_finished, viewer_published, viewer_shown, viewer_watched}
use Rattle.std.proofs.Common.{◌+◌, ◌≤◌, subst}
use Rattle.std.specs.Prelude.{OnOk}
use Rattle.view_script.specs.PlainLine.{line_publishes}
use Rattle.view_shell.proofs.Voting.{flow_well}
use Rattle.view_shell.proofs.lines.run_line.Goals as goal

pub returns-in_ok-publish-in-Publish-clause-talk : goal.returns-in_ok-publish-in-Publish-clause-talk
returns-in_ok-publish-in-Publish-clause-talk g c address lines =
    let out = output_tells g.W.Sink in
    let links = links_tell g.L.Link in
    let old = c.args.watcher.now in
    let first = run (viewer address old (plain_line c.args.line.now ∷ lines)) (plain_line c.args.line.now ∷ lines) in
    let u = viewer address c.publish.new.watcher lines in
    let payload = payload_spelling (record { scope = c.in-Publish.scope; event = c.in-Publish.event; value = plain c.in-Publish.value }) in
    let same : after_publish (viewer address old lines) payload ≡ u = viewer_published address lines old c.publish.new.watcher payload c.publish.ensures.kept c.in_ok-publish-in-Publish.ensures.publishes in
    flow_from (Acts (link_side_tells out links)) first (send_all (after_giving u) (unsent u.replica) (Receives ToCatchUp)) (viewer address c.send_and_hear.new.watcher lines) lines (link_side c.args.out.now c.args.link.now) (link_side c.send_and_hear.new.out c.send_and_hear.new.link)
    c.send_and_hear.result c.flow_of.result c.flow_of.ensures
    (ap (λ (l : ViewLine). run (viewer address old (plain_line l ∷ lines)) (plain_line l ∷ lines)) c.in-Publish.is ∙ ap (λ (v : Viewer). send_all (after_giving v) (unsent v.replica) (Receives ToCatchUp)) same)
    (c.send_and_hear.ensures.talk address lines)

pub returns-in_err-publish-in-Publish-clause-talk : goal.returns-in_err-publish-in-Publish-clause-talk
returns-in_err-publish-in-Publish-clause-talk g c address lines =
    let out = output_tells g.W.Sink in
    let links = links_tell g.L.Link in
    let old = c.args.watcher.now in
    let first = run (viewer address old (plain_line c.args.line.now ∷ lines)) (plain_line c.args.line.now ∷ lines) in
    rw (handed_on c.from_residual.result c.in_err-publish-in-Publish.field-0.0 c.from_residual.ensures.1)
    (wants (link_side_tells out links) first c.in_err-publish-in-Publish.field-0.0 (link_side c.args.out.now c.args.link.now) c.in_err-publish-in-Publish.ensures.want)

pub returns-in-Watch-clause-talk : goal.returns-in-Watch-clause-talk
returns-in-Watch-clause-talk g c address lines =
    let out = output_tells g.W.Sink in
    let links = links_tell g.L.Link in
    let old = c.args.watcher.now in
    let first = run (viewer address old (plain_line c.args.line.now ∷ lines)) (plain_line c.args.line.now ∷ lines) in
    let v = record (viewer address old lines) { topics = subscribes old.topics c.in-Watch.scope c.in-Watch.event c.in-Watch.handling } in
    let u = viewer address c.watch.new.watcher lines in
    flow_from (Acts (link_side_tells out links)) first (finish v []) u lines (link_side c.args.out.now c.args.link.now) (link_side c.watch.new.out c.args.link.now)
    c.watch.result c.flow_of-in-Watch.result c.flow_of-in-Watch.ensures (ap (λ (l : ViewLine). run (viewer address old (plain_line l ∷ lines)) (plain_line l ∷ lines)) c.in-Watch.is)
    (done_printing out links c.args.link.now c.args.out.now c.watch.new.out v u [] c.watch.result
    (viewer_watched address lines old c.watch.new.watcher (subscribes old.topics c.in-Watch.scope c.in-Watch.event c.in-Watch.handling) c.watch.result c.watch.ensures.kept c.watch.ensures.topics c.watch.ensures.ok)
    (c.watch.ensures.printed v refl refl) (c.watch.ensures.err v refl refl))

pub returns-in-Wait-clause-talk : goal.returns-in-Wait-clause-talk
returns-in-Wait-clause-talk g c address lines =
    let out = output_tells g.W.Sink in
    let links = links_tell g.L.Link in
    let old = c.args.watcher.now in
    let first = run (viewer address old (plain_line c.args.line.now ∷ lines)) (plain_line c.args.line.now ∷ lines) in
    flow_from (Acts (link_side_tells out links)) first (receive (viewer address old lines) (ToReach c.in-Wait.time)) (viewer address c.wait.new.watcher lines) lines (link_side c.args.out.now c.args.link.now) (link_side c.wait.new.out c.wait.new.link)
    c.wait.result c.flow_of-in-Wait.result c.flow_of-in-Wait.ensures (ap (λ (l : ViewLine). run (viewer address old (plain_line l ∷ lines)) (plain_line l ∷ lines)) c.in-Wait.is) (c.wait.ensures.talk address lines)

pub returns-in-WaitFor-clause-talk : goal.returns-in-WaitFor-clause-talk
returns-in-WaitFor-clause-talk g c address lines =
    let out = output_tells g.W.Sink in
    let links = links_tell g.L.Link in
    let old = c.args.watcher.now in
    let first = run (viewer address old (plain_line c.args.line.now ∷ lines)) (plain_line c.args.line.now ∷ lines) in
    flow_from (Acts (link_side_tells out links)) first (receive (viewer address old lines) (ToReach c.time_after-time.result)) (viewer address c.wait-in-WaitFor.new.watcher lines) lines (link_side c.args.out.now c.args.link.now) (link_side c.wait-in-WaitFor.new.out c.wait-in-WaitFor.new.link)
    c.wait-in-WaitFor.result c.flow_of-in-WaitFor.result c.flow_of-in-WaitFor.ensures
    (ap (λ (l : ViewLine). run (viewer address old (plain_line l ∷ lines)) (plain_line l ∷ lines)) c.in-WaitFor.is ∙ ap (λ (t : ℕ). receive (viewer address old lines) (ToReach t)) (sym c.time_after-time.ensures))
    (c.wait-in-WaitFor.ensures.talk address lines)

pub returns-in-Mark-clause-talk : goal.returns-in-Mark-clause-talk
returns-in-Mark-clause-talk g c address lines =
    let out = output_tells g.W.Sink in
    let links = links_tell g.L.Link in
    let old = c.args.watcher.now in
    let first = run (viewer address old (plain_line c.args.line.now ∷ lines)) (plain_line c.args.line.now ∷ lines) in
    let v = viewer address old lines in
    let u = viewer address c.mark.new.watcher lines in
    flow_from (Acts (link_side_tells out links)) first (finish v (mark_line c.in-Mark.word)) u lines (link_side c.args.out.now c.args.link.now) (link_side c.mark.new.out c.args.link.now)
    c.mark.result c.flow_of-in-Mark.result c.flow_of-in-Mark.ensures (ap (λ (l : ViewLine). run (viewer address old (plain_line l ∷ lines)) (plain_line l ∷ lines)) c.in-Mark.is)
    (done_printing out links c.args.link.now c.args.out.now c.mark.new.out v u (mark_line c.in-Mark.word) c.mark.result
    (viewer_finished address lines old c.mark.new.watcher c.mark.result c.mark.ensures.kept c.mark.ensures.ok) (c.mark.ensures.printed address lines) (c.mark.ensures.err address lines))

pub returns-in-Show-clause-talk : goal.returns-in-Show-clause-talk
returns-in-Show-clause-talk g c address lines =
    let out = output_tells g.W.Sink in
    let links = links_tell g.L.Link in
    let old = c.args.watcher.now in
    let first = run (viewer address old (plain_line c.args.line.now ∷ lines)) (plain_line c.args.line.now ∷ lines) in
    let v = viewer address old lines in
    let u = viewer address c.show.new.watcher lines in
    flow_from (Acts (link_side_tells out links)) first (show_world v) u lines (link_side c.args.out.now c.args.link.now) (link_side c.show.new.out c.args.link.now)
    c.show.result c.flow_of-in-Show.result c.flow_of-in-Show.ensures (ap (λ (l : ViewLine). run (viewer address old (plain_line l ∷ lines)) (plain_line l ∷ lines)) c.in-Show.is)
    (done_showing out links c.args.link.now c.args.out.now c.show.new.out v u c.show.result
    (viewer_shown address lines old c.show.new.watcher c.show.result c.show.ensures.kept c.show.ensures.ok) (c.show.ensures.printed address lines) (c.show.ensures.err address lines))

pub returns-in-Vote-clause-talk : goal.returns-in-Vote-clause-talk
returns-in-Vote-clause-talk g c address lines =
    let out = output_tells g.W.Sink in
    let links = links_tell g.L.Link in
    let old = c.args.watcher.now in
    let first = run (viewer address old (plain_line c.args.line.now ∷ lines)) (plain_line c.args.line.now ∷ lines) in
    flow_from (Acts (link_side_tells out links)) first (vote_on (viewer address old lines) c.in-Vote.at) (viewer address c.vote_on.new.watcher lines) lines (link_side c.args.out.now c.args.link.now) (link_side c.vote_on.new.out c.vote_on.new.link)
    c.vote_on.result c.flow_of-in-Vote.result c.flow_of-in-Vote.ensures (ap (λ (l : ViewLine). run (viewer address old (plain_line l ∷ lines)) (plain_line l ∷ lines)) c.in-Vote.is) (c.vote_on.ensures.talk address lines)

pub returns-in_ok-send_unsent-in-Settle-clause-talk : goal.returns-in_ok-send_unsent-in-Settle-clause-talk
returns-in_ok-send_unsent-in-Settle-clause-talk g c address lines =
    let out = output_tells g.W.Sink in
    let links = links_tell g.L.Link in
    let old = c.args.watcher.now in
    let first = run (viewer address old (plain_line c.args.line.now ∷ lines)) (plain_line c.args.line.now ∷ lines) in
    let from = send_all (after_giving (viewer address old lines)) (unsent old.replica.plain) (Receives ToSettle) in
    let mid = receive (viewer address c.send_unsent.new.watcher lines) ToSettle in
    flow_from (Acts (link_side_tells out links)) first from (viewer address c.await_settled.new.watcher lines) lines (link_side c.args.out.now c.args.link.now) (link_side c.await_settled.new.out c.await_settled.new.link)
    c.await_settled.result c.flow_of-in-Settle.result c.flow_of-in-Settle.ensures (ap (λ (l : ViewLine). run (viewer address old (plain_line l ∷ lines)) (plain_line l ∷ lines)) c.in-Settle.is)
    (done_behind (Acts (link_side_tells out links)) (all_acts_behind (link_side_tells out links)) from mid (viewer address c.await_settled.new.watcher lines) lines
    (link_side c.args.out.now c.args.link.now) (link_side c.args.out.now c.send_unsent.new.link) (link_side c.await_settled.new.out c.await_settled.new.link) c.await_settled.result
    (goes_in_link_side out links c.args.out.now from mid c.args.link.now c.send_unsent.new.link (c.in_ok-send_unsent-in-Settle.ensures.talk address lines (Receives ToSettle)))
    (c.await_settled.ensures.talk address lines))

pub returns-in_err-send_unsent-in-Settle-clause-talk : goal.returns-in_err-send_unsent-in-Settle-clause-talk
returns-in_err-send_unsent-in-Settle-clause-talk g c address lines =
    let out = output_tells g.W.Sink in
    let links = links_tell g.L.Link in
    let old = c.args.watcher.now in
    let first = run (viewer address old (plain_line c.args.line.now ∷ lines)) (plain_line c.args.line.now ∷ lines) in
    let from = send_all (after_giving (viewer address old lines)) (unsent old.replica.plain) (Receives ToSettle) in
    rw (handed_on c.from_residual-in_err-send_unsent-in-Settle.result c.in_err-send_unsent-in-Settle.field-0.0 c.from_residual-in_err-send_unsent-in-Settle.ensures.1)
    (stops_from (Acts (link_side_tells out links)) first from c.in_err-send_unsent-in-Settle.field-0.0 (link_side c.args.out.now c.args.link.now) (link_side c.args.out.now c.send_unsent.new.link) (ap (λ (l : ViewLine). run (viewer address old (plain_line l ∷ lines)) (plain_line l ∷ lines)) c.in-Settle.is)
    (stops_in_link_side out links c.args.out.now from c.in_err-send_unsent-in-Settle.field-0.0 c.args.link.now c.send_unsent.new.link (c.in_err-send_unsent-in-Settle.ensures.talk address lines (Receives ToSettle))))

pub returns-in-Snap-clause-talk : goal.returns-in-Snap-clause-talk
returns-in-Snap-clause-talk g c address lines =
    let out = output_tells g.W.Sink in
    let links = links_tell g.L.Link in
    let old = c.args.watcher.now in
    let first = run (viewer address old (plain_line c.args.line.now ∷ lines)) (plain_line c.args.line.now ∷ lines) in
    flow_from (Acts (link_side_tells out links)) first (Sending (viewer address old lines) (snap_frame (worlds_of old.replica) old.replica.plain) [] (Receives ToSnap)) (viewer address c.snap.new.watcher lines) lines
    (link_side c.args.out.now c.args.link.now) (link_side c.snap.new.out c.snap.new.link) c.snap.result c.flow_of-in-Snap.result c.flow_of-in-Snap.ensures (ap (λ (l : ViewLine). run (viewer address old (plain_line l ∷ lines)) (plain_line l ∷ lines)) c.in-Snap.is) (c.snap.ensures.talk address lines)

pub returns-in_ok-leave-in-Quit-clause-talk : goal.returns-in_ok-leave-in-Quit-clause-talk
returns-in_ok-leave-in-Quit-clause-talk g c address lines =
    let out = output_tells g.W.Sink in
    let links = links_tell g.L.Link in
    let old = c.args.watcher.now in
    let first = run (viewer address old (plain_line c.args.line.now ∷ lines)) (plain_line c.args.line.now ∷ lines) in
    goes_from (Acts (link_side_tells out links)) first (leave_session (viewer address old lines)) (Over ending.Done) (link_side c.args.out.now c.args.link.now) (link_side c.leave.new.out c.leave.new.link) (ap (λ (l : ViewLine). run (viewer address old (plain_line l ∷ lines)) (plain_line l ∷ lines)) c.in-Quit.is) (c.in_ok-leave-in-Quit.ensures.talk address lines)

pub returns-in_err-leave-in-Quit-clause-talk : goal.returns-in_err-leave-in-Quit-clause-talk
returns-in_err-leave-in-Quit-clause-talk g c address lines =
    let out = output_tells g.W.Sink in
    let links = links_tell g.L.Link in
    let old = c.args.watcher.now in
    let first = run (viewer address old (plain_line c.args.line.now ∷ lines)) (plain_line c.args.line.now ∷ lines) in
    rw (handed_on c.from_residual-in_err-leave-in-Quit.result c.in_err-leave-in-Quit.field-0.0 c.from_residual-in_err-leave-in-Quit.ensures.1)
    (stops_from (Acts (link_side_tells out links)) first (leave_session (viewer address old lines)) c.in_err-leave-in-Quit.field-0.0 (link_side c.args.out.now c.args.link.now) (link_side c.leave.new.out c.leave.new.link) (ap (λ (l : ViewLine). run (viewer address old (plain_line l ∷ lines)) (plain_line l ∷ lines)) c.in-Quit.is) (c.in_err-leave-in-Quit.ensures.talk address lines))

pub returns-in-Vote-clause-count : goal.returns-in-Vote-clause-count
returns-in-Vote-clause-count g c =
    subst (λ (l : ViewLine). OnOk c.flow_of-in-Vote.result (c.vote_on.new.watcher.published ≤ c.args.watcher.now.published + line_publishes (plain_line l))) (sym c.in-Vote.is)
    (flow_well (c.vote_on.new.watcher.published ≤ c.args.watcher.now.published + 1) c.vote_on.result c.flow_of-in-Vote.result c.flow_of-in-Vote.ensures c.vote_on.ensures.count)
