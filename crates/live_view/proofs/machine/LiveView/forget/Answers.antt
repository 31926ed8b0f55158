use Rattle.std.proofs.Common.{true, None, sym, ap, ◌∙◌}
use Rattle.replica.specs.View.{ReplicaView}
use Rattle.replica_plain.specs.declared.how.How.TheVariants.{Fresh}
use Rattle.live_view.specs.declared.input.Place.TheVariants as at
use Rattle.live_view.specs.declared.machine.LiveView.{LiveView}
use Rattle.live_view.proofs.machine.LiveView.forget.Goals as goal

pub returns-clause-forgets : goal.returns-clause-forgets
returns-clause-forgets c =
    let s = c.args.self.now in
    let q = c.lose.new.self.queue in
    c.lose.ensures.kept
    ∙ ap (λ (r : ReplicaView). record s { watcher = record s.watcher { replica = r }; queue = q; place = at.Unlinked Fresh; joined = None; lost = true })
    (sym (ap (λ (v : LiveView). v.watcher.replica) c.lose.ensures.kept))
