use Rattle.std.proofs.lemmas.Result.{err_from_is_err_and}
use Rattle.run_steps.specs.Outside.{links_tell, net_tells, output_tells}
use Rattle.live_view.specs.declared.input.LiveInput.TheVariants as input
use Rattle.live_view.specs.Live.{live_step}
use Rattle.live_view.specs.View.{live_state}
use Rattle.live_shell.specs.LiveSteps.{feed_tells, live_tells}
use Rattle.live_shell.proofs.Turns.{all_done, tell_stops}
use Rattle.live_shell.proofs.Visiting.{entered, wants_on}
use Rattle.live_shell.proofs.run.enter.Goals as goal

pub returns-in_err-tell-clause-turned : goal.returns-in_err-tell-clause-turned
returns-in_err-tell-clause-turned g c =
    let tells = live_tells (feed_tells g.K.Feed) (output_tells g.W.Sink) (net_tells g.N.Net)
    (links_tell g.N.Conn.Link) in
    let handed = err_from_is_err_and c.from_residual.result c.from_residual.ensures.1 in
    rw (handed.1, handed.2)
    (record { turns = λ address net lines from made. tell_stops tells address lines (live_state address c.args.view.now) input.Linked c.in_err-tell.field-0.0 c.args.feed.now net c.args.out.now c.tell.new.out c.args.link.now c.tell.new.link from tt (c.requires.wants address) made (c.in_err-tell.ensures.told address) })

pub returns-clause-turned : goal.returns-clause-turned
returns-clause-turned g c =
    let tells = live_tells (feed_tells g.K.Feed) (output_tells g.W.Sink) (net_tells g.N.Net)
    (links_tell g.N.Conn.Link) in
    record {
      turns = λ address net lines from made.
          let s = live_state address c.args.view.now in
          entered tells address lines s (live_state address c.tell.new.view) (live_state address c.attend.new.view) c.attend.result from c.args.feed.now c.attend.new.feed net c.args.out.now c.tell.new.out c.attend.new.out c.args.link.now c.tell.new.link c.attend.new.link (c.requires.wants address) made
          (all_done tells address c.tell.result c.in_ok-tell.field-0 c.in_ok-tell.was (live_step s input.Linked) c.args.out.now c.tell.new.out c.args.link.now c.tell.new.link (c.tell.ensures.told address)) (c.in_ok-tell.ensures.state address) (c.attend.ensures.turned.turns address net);
    }

pub returns-clause-wants : goal.returns-clause-wants
returns-clause-wants g c address = wants_on c.attend.result (live_state address c.attend.new.view) (c.attend.ensures.wants address)
