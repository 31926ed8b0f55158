use Rattle.std.proofs.Common.{ℕ, Ok}
use Rattle.run_steps.specs.Outside.{links_tell, net_tells, output_tells}
use Rattle.live_view.specs.View.{IsLive, live_state}
use Rattle.live_shell.specs.LiveSteps.{feed_tells, live_tells}
use Rattle.live_shell.specs.LiveRun.{AreCounted, Attends}
use Rattle.live_shell.proofs.run.attend.Given as goal

-- the turns so far were done
abbrev pub invariant-loop : goal.invariant-loop
invariant-loop g l = record {
  live : IsLive l.view;
  turned : Attends {A = ℕ} (live_tells (feed_tells g.K.Feed) (output_tells g.W.Sink) (net_tells g.N.Net)
      (links_tell g.N.Conn.Link))
      0 AreCounted (λ address. live_state address l.fn.view) (λ address. live_state address l.view) (Ok l.lines) l.fn.feed l.feed l.fn.out l.out l.fn.link l.link;
}
