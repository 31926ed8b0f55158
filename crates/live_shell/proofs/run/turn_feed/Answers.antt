use Rattle.std.proofs.Common.{Option, Some, refl, sym, subst}
use Rattle.std.proofs.lemmas.Result.{err_from_is_err_and}
use Rattle.run_steps.specs.Outside.{Well, links_tell, net_tells, output_tells}
use Rattle.live_view.specs.declared.input.LiveInput.{LiveInput}
use Rattle.live_view.specs.View.{live_state}
use Rattle.live_shell.specs.LiveSteps.{AsksFeed, feed_tells, live_tells}
use Rattle.live_shell.specs.Calls.{IsFed, fed_of}
use Rattle.live_shell.proofs.Turns.{feed_stops, feed_turn, feed_turn_stops, idle_turn}
use Rattle.live_shell.proofs.run.turn_feed.Goals as goal

pub returns-in-Err-clause-turned : goal.returns-in-Err-clause-turned
returns-in-Err-clause-turned g c =
    let feed = feed_tells g.K.Feed in
    let tells = live_tells feed (output_tells g.W.Sink) (net_tells g.N.Net)
    (links_tell g.N.Conn.Link) in
    record {
      turns = λ address net. feed_stops tells address c.args.lines (live_state address c.args.view.now) c.args.feed.now c.ask.new.feed c.args.out.now net (Some c.args.link.now) c.in-Err.fault c.read_end.result
          (c.requires.wants address) c.requires.few c.in-Err.ensures.asked c.read_end.ensures.failed c.read_end.ensures.wanted;
    }

pub returns-in_default-clause-turned : goal.returns-in_default-clause-turned
returns-in_default-clause-turned g c =
    let feed = feed_tells g.K.Feed in
    let tells = live_tells feed (output_tells g.W.Sink) (net_tells g.N.Net)
    (links_tell g.N.Conn.Link) in
    record {
      turns = λ address net. idle_turn tells address c.args.lines 64 (live_state address c.args.view.now) c.args.feed.now c.ask.new.feed c.args.out.now net (Some c.args.link.now)
          (c.requires.wants address) c.requires.few refl (subst (λ (t : Option LiveInput). AsksFeed feed Well (fed_of t) c.args.feed.now c.ask.new.feed) c.in_default.is c.in-Ok.ensures.asked);
    }

pub returns-clause-turned : goal.returns-clause-turned
returns-clause-turned g c =
    let feed = feed_tells g.K.Feed in
    let tells = live_tells feed (output_tells g.W.Sink) (net_tells g.N.Net)
    (links_tell g.N.Conn.Link) in
    record {
      turns = λ address net. feed_turn tells address c.args.lines c.lines_behind-behind.result (live_state address c.args.view.now) (live_state address c.tell-answered.new.view) c.in-Some.input c.args.feed.now c.ask.new.feed net c.args.out.now c.tell-answered.new.out
          c.args.link.now c.tell-answered.new.link c.tell-answered.result c.in_ok-answered.field-0 c.in_ok-answered.was (c.requires.wants address) c.requires.few (sym c.lines_behind-behind.ensures) (subst IsFed c.in-Some.is c.in-Ok.ensures.told)
          (subst (λ (t : Option LiveInput). AsksFeed feed Well (fed_of t) c.args.feed.now c.ask.new.feed) c.in-Some.is c.in-Ok.ensures.asked) (c.tell-answered.ensures.told address) (c.in_ok-answered.ensures.state address);
    }

pub returns-in_err-answered-clause-turned : goal.returns-in_err-answered-clause-turned
returns-in_err-answered-clause-turned g c =
    let feed = feed_tells g.K.Feed in
    let tells = live_tells feed (output_tells g.W.Sink) (net_tells g.N.Net)
    (links_tell g.N.Conn.Link) in
    let handed = err_from_is_err_and c.from_residual.result c.from_residual.ensures.1 in
    rw (handed.1, handed.2)
    (record {
      turns = λ address net. feed_turn_stops tells address c.args.lines (live_state address c.args.view.now) c.in-Some.input c.args.feed.now c.ask.new.feed net c.args.out.now c.tell-answered.new.out
          c.args.link.now c.tell-answered.new.link c.in_err-answered.field-0.0 (c.requires.wants address) c.requires.few (subst IsFed c.in-Some.is c.in-Ok.ensures.told)
          (subst (λ (t : Option LiveInput). AsksFeed feed Well (fed_of t) c.args.feed.now c.ask.new.feed) c.in-Some.is c.in-Ok.ensures.asked) (c.in_err-answered.ensures.told address);
    })
