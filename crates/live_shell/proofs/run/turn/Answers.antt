use Rattle.std.proofs.Common.{arith}
use Rattle.run_steps.specs.Outside.{links_tell, net_tells, output_tells}
use Rattle.live_view.specs.View.{live_state}
use Rattle.live_shell.specs.LiveSteps.{feed_tells, live_tells}
use Rattle.live_shell.specs.LiveRun.{AreCounted}
use Rattle.live_shell.proofs.Visiting.{attends_on}
use Rattle.live_shell.proofs.run.turn.Goals as goal

pub returns-then-lines-lt-MOST_LINES-clause-turned : goal.returns-then-lines-lt-MOST_LINES-clause-turned
returns-then-lines-lt-MOST_LINES-clause-turned g c =
    let tells = live_tells (feed_tells g.K.Feed) (output_tells g.W.Sink) (net_tells g.N.Net)
    (links_tell g.N.Conn.Link) in
    attends_on tells c.args.lines AreCounted (λ address. live_state address c.args.view.now) (λ address. live_state address c.turn_feed.new.view) c.turn_feed.result c.args.feed.now c.turn_feed.new.feed c.args.out.now c.turn_feed.new.out c.args.link.now c.turn_feed.new.link c.turn_feed.ensures.turned

pub returns-clause-turned : goal.returns-clause-turned
returns-clause-turned g c =
    let tells = live_tells (feed_tells g.K.Feed) (output_tells g.W.Sink) (net_tells g.N.Net)
    (links_tell g.N.Conn.Link) in
    attends_on tells c.args.lines AreCounted (λ address. live_state address c.args.view.now) (λ address. live_state address c.turn_link.new.view) c.turn_link.result c.args.feed.now c.turn_link.new.feed c.args.out.now c.turn_link.new.out c.args.link.now c.turn_link.new.link (c.turn_link.ensures.turned c.args.lines (omega (arith, c.if-lines-lt-MOST_LINES.false)))
