use Rattle.std.proofs.Common.{Some, refl, subst, Bool, ◌≡◌}
use Rattle.std.specs.Prelude.{MatchBool, ⊤}
use Rattle.std.proofs.lemmas.Result.{err_from_is_err_and}
use Rattle.run_steps.specs.Outside.{links_tell, net_tells, output_tells}
use Rattle.live_view.specs.declared.outcome.LiveWant.TheVariants as want
use Rattle.live_view.specs.Live.{wanted}
use Rattle.live_view.specs.View.{live_state}
use Rattle.live_shell.specs.LiveSteps.{feed_tells, live_outside, live_tells}
use Rattle.live_shell.specs.LiveRun.{AreAny, AreCounted}
use Rattle.live_shell.proofs.Turning.{stopped_counted, turned_any, turned_counted, turned_none}
use Rattle.live_shell.proofs.run.attend.Goals as goal

pub loop-init : goal.loop-init
loop-init g c = record { live = c.requires.live; turned = record { turns = λ address net. turned_none _ address 0 (AreCounted 0) (live_state address c.args.view.now) (live_outside c.args.feed.now c.args.out.now net (Some c.args.link.now)) refl } }

pub returns-then-not-wants_input-clause-wants : goal.returns-then-not-wants_input-clause-wants
returns-then-not-wants_input-clause-wants g c address =
    let phase = (live_state address c.loop.view).phase in
    subst (λ (b : Bool). MatchBool b (wanted phase ≡ want.Input) (wanted phase ≡ want.Input → ⊥)) c.if-not-wants_input.true (c.wants_input.ensures address)

pub returns-then-not-wants_input-clause-turned : goal.returns-then-not-wants_input-clause-turned
returns-then-not-wants_input-clause-turned g c =
    let tells = live_tells (feed_tells g.K.Feed) (output_tells g.W.Sink) (net_tells g.N.Net)
    (links_tell g.N.Conn.Link) in
    record {
      turns = λ address net. turned_any tells address 0 (AreCounted c.loop.lines) (AreAny {A = ⊤} tt) (live_state address c.args.view.now) (live_state address c.loop.view)
          (live_outside c.args.feed.now c.args.out.now net (Some c.args.link.now)) (live_outside c.loop.feed c.loop.out net (Some c.loop.link)) (λ n. tt) (c.loop.invariant.turned.turns address net);
    }

pub returns-in_err-lines-clause-turned : goal.returns-in_err-lines-clause-turned
returns-in_err-lines-clause-turned g c =
    let tells = live_tells (feed_tells g.K.Feed) (output_tells g.W.Sink) (net_tells g.N.Net)
    (links_tell g.N.Conn.Link) in
    let handed = err_from_is_err_and c.from_residual.result c.from_residual.ensures.1 in
    rw (handed.1, handed.2)
    (record {
      turns = λ address net. stopped_counted tells address 0 c.loop.lines (live_state address c.args.view.now) (live_state address c.loop.view) c.in_err-lines.field-0.0
          (live_outside c.args.feed.now c.args.out.now net (Some c.args.link.now)) (live_outside c.loop.feed c.loop.out net (Some c.loop.link)) (live_outside c.turn.new.feed c.turn.new.out net (Some c.turn.new.link))
          (c.loop.invariant.turned.turns address net) (c.in_err-lines.ensures.turned.turns address net);
    })

pub loop-preserved : goal.loop-preserved
loop-preserved g c =
    let tells = live_tells (feed_tells g.K.Feed) (output_tells g.W.Sink) (net_tells g.N.Net)
    (links_tell g.N.Conn.Link) in
    record {
      live = c.turn.ensures.live;
      turned = record {
        turns = λ address net. turned_counted tells address 0 c.loop.lines (AreCounted c.in_ok-lines.lines) (live_state address c.args.view.now) (live_state address c.loop.view) (live_state address c.turn.new.view)
            (live_outside c.args.feed.now c.args.out.now net (Some c.args.link.now)) (live_outside c.loop.feed c.loop.out net (Some c.loop.link)) (live_outside c.turn.new.feed c.turn.new.out net (Some c.turn.new.link))
            (c.loop.invariant.turned.turns address net) (c.in_ok-lines.ensures.turned.turns address net);
      };
    }

-- the view is asked before each turn
pub turn-requires-clause-wants : goal.turn-requires-clause-wants
turn-requires-clause-wants g c κs within address =
    let phase = (live_state address c.loop.view).phase in
    record { is = subst (λ (b : Bool). MatchBool b (wanted phase ≡ want.Input) (wanted phase ≡ want.Input → ⊥)) c.if-not-wants_input.false (c.wants_input.ensures address) }
