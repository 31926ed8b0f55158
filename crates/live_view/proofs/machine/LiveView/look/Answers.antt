use Rattle.std.proofs.Common.{true, None, refl, sym, ap, ◌∙◌}
use Rattle.replica.specs.View.{ReplicaView}
use Rattle.replica_plain.specs.declared.how.How.TheVariants.{Fresh}
use Rattle.view_shell.specs.declared.watcher.Watcher.{Watcher}
use Rattle.view_shell.specs.Phases.{world_text}
use Rattle.live_view.specs.declared.input.Place.TheVariants as at
use Rattle.live_view.specs.declared.machine.LiveView.{LiveView}
use Rattle.live_view.specs.View.{left}
use Rattle.live_view.proofs.Looks.{live_rested}
use Rattle.live_view.proofs.machine.LiveView.look.Goals as goal

pub returns-in-Ok-clause-live : goal.returns-in-Ok-clause-live
returns-in-Ok-clause-live c =
    let s = c.args.self.now in
    let w = c.rested_text.new.watcher in
    live_rested s (record s { watcher = w }) refl (ap (λ (u : Watcher). u.published) c.rested_text.ensures.kept) c.rested_text.ensures.knows c.in-Ok.ensures.ready c.requires.live

pub returns-in-Ok-clause-rests : goal.returns-in-Ok-clause-rests
returns-in-Ok-clause-rests c address = c.in-Ok.ensures.rests address (left c.args.self.now)

pub returns-in-Ok-clause-text : goal.returns-in-Ok-clause-text
returns-in-Ok-clause-text c address = c.in-Ok.ensures.text address (left c.args.self.now) ∙ ap world_text (c.in-Ok.ensures.rests address (left c.args.self.now))

pub returns-then-self-clause-err : goal.returns-then-self-clause-err
returns-then-self-clause-err c =
    let s = c.args.self.now in
    let q = c.lose.new.self.queue in
    c.lose.ensures.kept
    ∙ ap (λ (r : ReplicaView). record s { watcher = record s.watcher { replica = r }; queue = q; place = at.Unlinked Fresh; joined = None; lost = true })
    (sym (ap (λ (v : LiveView). v.watcher.replica) c.lose.ensures.kept))

pub returns-in-Err-clause-err : goal.returns-in-Err-clause-err
returns-in-Err-clause-err c =
    let s = c.args.self.now in
    let q = c.lose-in-Err.new.self.queue in
    c.lose-in-Err.ensures.kept
    ∙ ap (λ (w : Watcher). record s { watcher = w; queue = q; place = at.Unlinked Fresh; joined = None; lost = true }) c.rested_text.ensures.kept
    ∙ ap (λ (r : ReplicaView). record s { watcher = record s.watcher { replica = r }; queue = q; place = at.Unlinked Fresh; joined = None; lost = true })
    (sym (ap (λ (v : LiveView). v.watcher.replica) c.lose-in-Err.ensures.kept))
