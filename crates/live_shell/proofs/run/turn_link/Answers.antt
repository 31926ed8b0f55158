use Rattle.std.proofs.Common.{refl}
use Rattle.std.proofs.lemmas.Result.{err_from_is_err_and}
use Rattle.run_steps.specs.Outside.{links_tell, net_tells, output_tells}
use Rattle.live_view.specs.declared.input.LiveInput.TheVariants as input
use Rattle.live_view.specs.Live.{is_held, live_step}
use Rattle.live_view.specs.View.{live_state}
use Rattle.live_shell.specs.LiveSteps.{feed_tells, live_tells}
use Rattle.live_shell.proofs.Turns.{all_done, held_before, left_heard, link_turn, link_turn_stops, link_wants}
use Rattle.live_shell.proofs.run.turn_link.Goals as goal

pub returns-in_err-heard-clause-turned : goal.returns-in_err-heard-clause-turned
returns-in_err-heard-clause-turned g c lines many =
    let feed = feed_tells g.K.Feed in
    let tells = live_tells feed (output_tells g.W.Sink) (net_tells g.N.Net)
    (links_tell g.N.Conn.Link) in
    let handed = err_from_is_err_and c.from_residual.result c.from_residual.ensures.1 in
    rw (handed.1, handed.2)
    (record { turns = λ address net. link_wants tells address lines (live_state address c.args.view.now) c.args.feed.now net c.args.out.now c.args.link.now c.hear.new.link (c.requires.wants address) many c.in_err-heard.ensures.wanted })

pub returns-in_err-answered-clause-turned : goal.returns-in_err-answered-clause-turned
returns-in_err-answered-clause-turned g c lines many =
    let feed = feed_tells g.K.Feed in
    let tells = live_tells feed (output_tells g.W.Sink) (net_tells g.N.Net)
    (links_tell g.N.Conn.Link) in
    let handed = err_from_is_err_and c.from_residual-in_err-answered.result c.from_residual-in_err-answered.ensures.1 in
    rw (handed.1, handed.2)
    (record {
      turns = λ address net. link_turn_stops tells address lines (live_state address c.args.view.now) c.in_ok-heard.heard c.args.feed.now net c.args.out.now c.tell-answered.new.out
          c.args.link.now c.hear.new.link c.tell-answered.new.link c.in_err-answered.field-0.0 (c.requires.wants address) many c.in_ok-heard.ensures.well (c.in_err-answered.ensures.told address);
    })

pub returns-clause-turned : goal.returns-clause-turned
returns-clause-turned g c lines many =
    let feed = feed_tells g.K.Feed in
    let tells = live_tells feed (output_tells g.W.Sink) (net_tells g.N.Net)
    (links_tell g.N.Conn.Link) in
    record {
      turns = λ address net.
          let s = live_state address c.args.view.now in
          let s' = live_state address c.tell-answered.new.view in
          let told = input.Says c.in_ok-heard.heard in
          let steps = c.in_ok-answered.ensures.state address in
          link_turn tells address lines 0 s s' c.in_ok-heard.heard c.args.feed.now c.pause_if.new.feed net c.args.out.now c.tell-answered.new.out c.args.link.now c.hear.new.link c.tell-answered.new.link (c.requires.wants address) many refl c.in_ok-heard.ensures.well
          (all_done tells address c.tell-answered.result c.in_ok-answered.field-0 c.in_ok-answered.was (live_step s told) c.args.out.now c.tell-answered.new.out c.hear.new.link c.tell-answered.new.link (c.tell-answered.ensures.told address))
          (c.pause_if.ensures (is_held s.holds s.phase told) (held_before s told c.holds-before.result (c.holds-before.ensures address)) (left_heard s s' c.in_ok-heard.heard c.holds-before.result c.holds.result (c.holds-before.ensures address) (c.holds.ensures address) steps))
          steps;
    }
