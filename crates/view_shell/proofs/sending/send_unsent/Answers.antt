use Rattle.std.proofs.Common.{◌≡◌, List, [], refl, ap, sym, subst, ◌∙◌}
use Rattle.std.specs.List.{AllByRecursion}
use Rattle.run_steps.specs.Outside.{links_tell}
use Rattle.replica.specs.View.{ReplicaView}
use Rattle.replica_plain.specs.Calls.{unsent}
use Rattle.wire_frames.specs.declared.frame.ClientFrame.{ClientFrame}
use Rattle.view_shell.specs.declared.watcher.Watcher.{Watcher}
use Rattle.view_shell.specs.Phases.{IsReadAsWorld, Viewer, after_giving, send_all}
use Rattle.view_shell.specs.ViewRun.{GoesOrStops, LinkActs}
use Rattle.view_shell.specs.declared.ending.ViewEnd.TheVariants as ending
use Rattle.view_shell.specs.Viewers.{viewer}
use Rattle.view_shell.proofs.Going.{goes_or_stops_from, handed_on, link_wants, unsent_read}
use Rattle.view_shell.proofs.sending.send_unsent.Goals as goal

pub returns-in_err-frames-clause-talk : goal.returns-in_err-frames-clause-talk
returns-in_err-frames-clause-talk g c address lines task =
    rw (handed_on c.from_residual.result ending.WantOfMemory c.from_residual.ensures.1) (link_wants _ _ _ _ refl)

pub returns-clause-talk : goal.returns-clause-talk
returns-clause-talk g c address lines task =
    let links = links_tell g.L.Link in
    let old = c.args.watcher.now in
    let new = c.send_all.new.watcher in
    let v = after_giving (viewer address old lines) in
    let frames : unsent old.replica.plain ≡ c.as_slice.result.now = sym (c.as_slice.ensures ∙ c.in_ok-frames.ensures.frames) in
    let same : record v { receives = new.receives } ≡ viewer address new lines =
    sym (ap (λ (w : Watcher). viewer address w lines) c.send_all.ensures.kept ∙ ap (λ (r : ReplicaView). viewer address (record old { replica = r; receives = new.receives }) lines) c.in_ok-frames.ensures.ok) in
    goes_or_stops_from (LinkActs links) (send_all v (unsent old.replica.plain) task) (send_all v c.as_slice.result.now task) (λ it. send_all (viewer address new lines) [] task) c.send_all.result c.args.link.now c.send_all.new.link
    (ap (λ (fs : List ClientFrame). send_all v fs task) frames)
    (subst (λ (u : Viewer). GoesOrStops (LinkActs links) (send_all v c.as_slice.result.now task) (λ it. send_all u [] task) c.send_all.result c.args.link.now c.send_all.new.link) same
    (c.send_all.ensures.talk v task refl (subst (AllByRecursion (IsReadAsWorld v)) frames (unsent_read v old.replica.plain))))
