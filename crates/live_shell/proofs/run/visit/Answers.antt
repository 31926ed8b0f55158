use Rattle.run_steps.specs.Outside.{links_tell, net_tells, output_tells}
use Rattle.run_steps.specs.declared.calls.CallFault.TheVariants as fault
use Rattle.live_view.specs.View.{live_state}
use Rattle.live_shell.specs.LiveSteps.{feed_tells, live_tells}
use Rattle.live_shell.proofs.Visiting.{made_acts, made_not, made_wants, made_well, missed, visited, wants_on}
use Rattle.live_shell.proofs.run.visit.Goals as goal

pub returns-in-Err-Failed-clause-visited : goal.returns-in-Err-Failed-clause-visited
returns-in-Err-Failed-clause-visited g c =
    let tells = live_tells (feed_tells g.K.Feed) (output_tells g.W.Sink) (net_tells g.N.Net)
    (links_tell g.N.Conn.Link) in
    let address = c.args.address.now in
    record {
      turns = λ lines from back. missed tells address lines (live_state address c.args.view.now) (live_state address c.go_without.new.view) c.go_without.result from c.args.feed.now c.go_without.new.feed c.args.out.now c.args.net.now c.connect.new.net back
          (made_not tells.net tells.links address c.args.net.now c.connect.new.net c.connect.result c.connect.ensures c.in-Err-Failed.field-0 fault.Failed c.in-Err-Failed.is c.in-Err-Failed.field-0-is)
          (c.requires.wants address) (c.go_without.ensures.told address) (c.go_without.ensures.paused address) c.go_without.ensures.kept c.go_without.ensures.err;
    }

pub returns-in-Err-WantOfMemory-clause-visited : goal.returns-in-Err-WantOfMemory-clause-visited
returns-in-Err-WantOfMemory-clause-visited g c =
    let tells = live_tells (feed_tells g.K.Feed) (output_tells g.W.Sink) (net_tells g.N.Net)
    (links_tell g.N.Conn.Link) in
    let address = c.args.address.now in
    record {
      turns = λ lines from back. made_wants tells address lines (live_state address c.args.view.now) (live_state address c.args.view.now) from c.args.feed.now c.args.out.now c.args.net.now c.connect.new.net (c.requires.wants address) back
          (made_not tells.net tells.links address c.args.net.now c.connect.new.net c.connect.result c.connect.ensures c.in-Err-WantOfMemory.field-0 fault.WantOfMemory c.in-Err-WantOfMemory.is c.in-Err-WantOfMemory.field-0-is);
    }

pub returns-clause-visited : goal.returns-clause-visited
returns-clause-visited g c =
    let tells = live_tells (feed_tells g.K.Feed) (output_tells g.W.Sink) (net_tells g.N.Net)
    (links_tell g.N.Conn.Link) in
    let address = c.args.address.now in
    record {
      turns = λ lines from back. visited tells address lines (live_state address c.args.view.now) (live_state address c.enter-attended.new.view) c.enter-attended.result from c.args.feed.now c.enter-attended.new.feed c.args.out.now c.enter-attended.new.out c.connect.new.net c.back.new.self c.enter-attended.new.link
          (c.enter-attended.ensures.turned.turns address c.connect.new.net lines from (made_acts tells address from c.args.feed.now c.args.out.now c.args.net.now c.connect.new.net c.in-Ok.link back
          (made_well tells.net tells.links address c.args.net.now c.connect.new.net c.connect.result c.connect.ensures c.in-Ok.link c.in-Ok.is)))
          (record { lent = c.back.ensures.lent; over = c.back.ensures.over; counts = c.back.ensures.counts; coming = c.back.ensures.coming; asked = c.back.ensures.asked; faults = c.back.ensures.faults });
    }

pub returns-clause-wants : goal.returns-clause-wants
returns-clause-wants g c address = wants_on c.enter-attended.result (live_state address c.enter-attended.new.view) (c.enter-attended.ensures.wants address)

pub returns-in-Err-Failed-clause-wants : goal.returns-in-Err-Failed-clause-wants
returns-in-Err-Failed-clause-wants g c address = wants_on c.go_without.result (live_state address c.go_without.new.view) (c.go_without.ensures.wants address)
