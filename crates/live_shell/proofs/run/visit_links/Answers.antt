use Rattle.std.proofs.Common.{None, [], sym, ◌∙◌}
use Rattle.run_steps.specs.Outside.{links_tell, net_tells, output_tells}
use Rattle.live_view.specs.View.{live_state}
use Rattle.live_shell.specs.LiveSteps.{feed_tells, live_outside, live_tells}
use Rattle.live_shell.proofs.Visiting.{lines_so_far, link_wanted, none_yet, ran_on, ran_over, ran_stops}
use Rattle.live_shell.proofs.run.visit_links.Goals as goal

pub loop-init : goal.loop-init
loop-init g c =
    let tells = live_tells (feed_tells g.K.Feed) (output_tells g.W.Sink) (net_tells g.N.Net)
    (links_tell g.N.Conn.Link) in
    let address = c.args.address.now in
    record { live = c.requires.live; wants = c.requires.wants; so_far = none_yet tells address (live_state address c.args.view.now) c.args.feed.now c.args.out.now c.args.net.now }

pub returns-in-Over : goal.returns-in-Over
returns-in-Over g c =
    let tells = live_tells (feed_tells g.K.Feed) (output_tells g.W.Sink) (net_tells g.N.Net)
    (links_tell g.N.Conn.Link) in
    let address = c.args.address.now in
    record {
      ran = ran_over tells address (live_state address c.args.view.now) (live_state address c.loop.view) c.in-Over.end (live_outside c.args.feed.now c.args.out.now c.args.net.now None) (live_outside c.loop.feed c.loop.out c.loop.net None)
          c.loop.invariant.so_far (sym c.in-Over.is ∙ c.wanted.ensures address);
    }

pub returns-in-Err : goal.returns-in-Err
returns-in-Err g c =
    let tells = live_tells (feed_tells g.K.Feed) (output_tells g.W.Sink) (net_tells g.N.Net)
    (links_tell g.N.Conn.Link) in
    let address = c.args.address.now in
    record {
      ran = ran_stops tells address (live_state address c.args.view.now) (live_state address c.loop.view) (live_state address c.visit.new.view) c.in-Err.end
          (live_outside c.args.feed.now c.args.out.now c.args.net.now None) (live_outside c.loop.feed c.loop.out c.loop.net None) (live_outside c.visit.new.feed c.visit.new.out c.visit.new.net None)
          c.loop.invariant.so_far (c.in-Err.ensures.visited.turns (lines_so_far tells address (live_state address c.args.view.now) (live_state address c.loop.view) (live_outside c.args.feed.now c.args.out.now c.args.net.now None) (live_outside c.loop.feed c.loop.out c.loop.net None) c.loop.invariant.so_far) c.loop.invariant.so_far.mid c.loop.invariant.so_far.back);
    }

pub loop-preserved : goal.loop-preserved
loop-preserved g c =
    let tells = live_tells (feed_tells g.K.Feed) (output_tells g.W.Sink) (net_tells g.N.Net)
    (links_tell g.N.Conn.Link) in
    let address = c.args.address.now in
    record {
      live = c.visit.ensures.live;
      wants = c.in-Ok.ensures.wants;
      so_far = ran_on tells address (live_state address c.args.view.now) (live_state address c.loop.view) (live_state address c.visit.new.view) c.in-Ok.field-0
          (live_outside c.args.feed.now c.args.out.now c.args.net.now None) (live_outside c.loop.feed c.loop.out c.loop.net None) (live_outside c.visit.new.feed c.visit.new.out c.visit.new.net None)
          c.loop.invariant.so_far (c.in-Ok.ensures.visited.turns (lines_so_far tells address (live_state address c.args.view.now) (live_state address c.loop.view) (live_outside c.args.feed.now c.args.out.now c.args.net.now None) (live_outside c.loop.feed c.loop.out c.loop.net None) c.loop.invariant.so_far) c.loop.invariant.so_far.mid c.loop.invariant.so_far.back);
    }

pub unreachable-requires : goal.unreachable-requires
unreachable-requires g c = c.loop.invariant.wants [] (sym (c.wanted.ensures []) ∙ c.in-Input.is)

pub visit-requires-clause-wants : goal.visit-requires-clause-wants
visit-requires-clause-wants g c κs within address = link_wanted address c.loop.view c.wanted.result (c.wanted.ensures address) c.in-Link.is
