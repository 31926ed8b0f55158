use Rattle.std.proofs.Common.{◌≡◌, refl, ap, sym, ◌∙◌}
use Rattle.replica.specs.View.{ReplicaView}
use Rattle.replica_plain.specs.Calls.{unsent}
use Rattle.view_shell.specs.declared.watcher.Watcher.{Watcher}
use Rattle.view_shell.specs.Phases.{after_giving}
use Rattle.view_shell.specs.Viewers.{viewer}
use Rattle.live_view.proofs.Leading.{unsent_leads}
use Rattle.live_view.proofs.doing.send_unsent.Goals as goal

pub returns-clause-talk : goal.returns-clause-talk
returns-clause-talk c address lines task =
    let old = c.args.watcher.now in
    let new = c.send_frames.new.watcher in
    let v = after_giving (viewer address old lines) in
    let frames : unsent old.replica.plain ≡ c.as_slice.result.now = sym (c.as_slice.ensures ∙ c.in_ok-frames.ensures.frames) in
    let same : record v { receives = new.receives } ≡ viewer address new lines =
    sym (ap (λ (w : Watcher). viewer address w lines) c.send_frames.ensures.kept ∙ ap (λ (r : ReplicaView). viewer address (record old { replica = r; receives = new.receives }) lines) c.in_ok-frames.ensures.ok) in
    unsent_leads c.send_frames.result c.args.out.now c.send_frames.new.out v (record v { receives = new.receives }) (viewer address new lines) (unsent old.replica.plain) c.as_slice.result.now task frames same
    (c.send_frames.ensures.talk v task refl)
