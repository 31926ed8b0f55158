use Rattle.std.proofs.Common.{◌≡◌, ℕ, List, Ok, None}
use Rattle.std.specs.Prelude.{⊤}
use Rattle.run_steps.specs.Outside.{links_tell, net_tells, output_tells}
use Rattle.live_view.specs.declared.outcome.LiveWant.TheVariants as want
use Rattle.live_view.specs.Live.{wanted}
use Rattle.live_view.specs.View.{IsLive, live_state}
use Rattle.live_shell.specs.LiveSteps.{feed_tells, live_outside, live_tells}
use Rattle.live_shell.specs.LiveRun.{TurnsAndBack}
use Rattle.live_shell.proofs.run.visit_links.Given as goal

-- the links so far went back
abbrev pub invariant-loop : goal.invariant-loop
invariant-loop g l = record {
  live : IsLive l.view;
  wants : (address : List ℕ) → wanted (live_state address l.view).phase ≡ want.Input → ⊥;
  so_far : TurnsAndBack {A = ⊤} (live_tells (feed_tells g.K.Feed) (output_tells g.W.Sink) (net_tells g.N.Net)
      (links_tell g.N.Conn.Link))
      l.address 0 (live_state l.address l.fn.view) (live_state l.address l.view) (Ok tt) (live_outside l.fn.feed l.fn.out l.fn.net None) (live_outside l.feed l.out l.net None);
}
