use Rattle.std.proofs.Common.{Bool, sym, ap, ◌∙◌}
use Rattle.view_shell.specs.Viewers.{viewer}
use Rattle.view_shell.proofs.Readiness.{viewer_at_rest}
use Rattle.live_view.specs.Looking.{rested_if}
use Rattle.live_view.proofs.Looks.{joined_ready}
use Rattle.live_view.proofs.Machines.{ready_at}
use Rattle.live_view.proofs.looking.rest_joined.Goals as goal

pub returns-then-not-joined_at-clause-rests : goal.returns-then-not-joined_at-clause-rests
returns-then-not-joined_at-clause-rests c address lines =
    sym (ap (λ (b : Bool). rested_if b (viewer address c.args.watcher.now lines)) (sym c.joined_at.ensures ∙ c.if-not-joined_at.true))

pub rest-requires : goal.rest-requires
rest-requires c = record { ready = joined_ready c.args.place c.args.watcher.now (sym c.joined_at.ensures ∙ c.if-not-joined_at.false) c.requires.ready }

pub returns-clause-ready : goal.returns-clause-ready
returns-clause-ready c = ready_at c.args.place c.rest.new.watcher c.in-Ok.ensures.ready

pub returns-clause-rests : goal.returns-clause-rests
returns-clause-rests c address lines =
    viewer_at_rest address lines c.args.watcher.now c.rest.new.watcher c.rest.ensures.kept c.in-Ok.ensures.rests
    ∙ sym (ap (λ (b : Bool). rested_if b (viewer address c.args.watcher.now lines)) (sym c.joined_at.ensures ∙ c.if-not-joined_at.false))
