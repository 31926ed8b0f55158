use Rattle.std.proofs.Common.{arith}
use Rattle.view_shell.specs.Viewers.{viewer}
use Rattle.live_view.specs.Live.{link_ends}
use Rattle.live_view.specs.View.{left}
use Rattle.live_view.proofs.Machines.{holds_is}
use Rattle.live_view.proofs.machine.LiveView.holds_on.Goals as goal

pub returns-then-self-gt0-clause-held : goal.returns-then-self-gt0-clause-held
returns-then-self-gt0-clause-held c address =
    let s = c.args.self.now in
    holds_is s.holds (link_ends (viewer address s.watcher (left s)) c.args.heard.now) c.link_ends.result (omega (arith, c.if-self-gt0.true)) (c.link_ends.ensures address (left s))
