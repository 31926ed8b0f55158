use Rattle.std.proofs.Common.{◌≡◌, None, refl, ap, ◌∙◌}
use Rattle.std.specs.Arc.{arc_value}
use Rattle.model_solved.specs.Founding.{CheckedView, founding_of}
use Rattle.run_steps.specs.Outside.{links_tell, net_tells, output_tells}
use Rattle.live_view.specs.Script.{first_state}
use Rattle.live_view.specs.View.{live_state}
use Rattle.live_shell.specs.LiveSteps.{feed_tells, live_outside, live_tells}
use Rattle.live_shell.proofs.Visiting.{first_wants, ran_from, ran_without}
use Rattle.live_shell.proofs.run.run_live.Goals as goal

pub returns-in_default : goal.returns-in_default
returns-in_default g c =
    let tells = live_tells (feed_tells g.K.Feed) (output_tells g.W.Sink) (net_tells g.N.Net)
    (links_tell g.N.Conn.Link) in
    let visit = c.args.visit.now in
    record { ran = ran_without tells visit.address (first_state (founding_of (arc_value visit.program)) visit.id.0 visit.view visit.address) c.args.feed.now c.args.out.now c.args.net.now }

pub returns-in-Err : goal.returns-in-Err
returns-in-Err g c =
    let tells = live_tells (feed_tells g.K.Feed) (output_tells g.W.Sink) (net_tells g.N.Net)
    (links_tell g.N.Conn.Link) in
    let visit = c.args.visit.now in
    record { ran = ran_without tells visit.address (first_state (founding_of (arc_value visit.program)) visit.id.0 visit.view visit.address) c.args.feed.now c.args.out.now c.args.net.now }

pub visit_links-end-requires-clause-wants : goal.visit_links-end-requires-clause-wants
visit_links-end-requires-clause-wants g c κs within address =
    let visit = c.args.visit.now in
    first_wants (live_state address c.in-Ok-found.view) (first_state (founding_of (arc_value c.in-Ok.program)) visit.id.0 visit.view address) (c.in-Ok-found.ensures.first address) refl

pub returns : goal.returns
returns g c =
    let tells = live_tells (feed_tells g.K.Feed) (output_tells g.W.Sink) (net_tells g.N.Net)
    (links_tell g.N.Conn.Link) in
    let visit = c.args.visit.now in
    let same : arc_value c.in-Ok.program ≡ arc_value visit.program = c.in-Ok.ensures.cases in
    record {
      ran = ran_from tells visit.address (live_state visit.address c.in-Ok-found.view) (first_state (founding_of (arc_value visit.program)) visit.id.0 visit.view visit.address) c.visit_links-end.result
          (live_outside c.args.feed.now c.args.out.now c.args.net.now None) (live_outside c.visit_links-end.new.feed c.visit_links-end.new.out c.visit_links-end.new.net None)
          (c.in-Ok-found.ensures.first visit.address ∙ ap (λ (p : CheckedView). first_state (founding_of p) visit.id.0 visit.view visit.address) same) c.visit_links-end.ensures.ran;
    }
