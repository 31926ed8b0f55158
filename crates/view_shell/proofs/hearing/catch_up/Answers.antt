use Rattle.std.proofs.Common.{◌≡◌, true, false, [], refl, sym, ◌∙◌}
use Rattle.view_shell.specs.Phases.{ToCatchUp, Receiving, finish, has_caught_up, receive}
use Rattle.view_shell.specs.Viewers.{viewer}
use Rattle.view_shell.proofs.Going.{goes_and_stops, goes_nowhere, goes_on, goes_to, handed_on, link_acts_behind}
use Rattle.view_shell.proofs.Reaching.{caught_up, kept_on, not_caught_up}
use Rattle.view_shell.proofs.hearing.catch_up.Goals as goal

pub loop-init : goal.loop-init
loop-init g c = record { kept = refl; ready = c.requires.ready; talk = λ address lines. goes_nowhere _ (receive (viewer address c.args.watcher.now lines) ToCatchUp) c.args.link.now }

pub returns-then-has_caught_up-clause-talk : goal.returns-then-has_caught_up-clause-talk
returns-then-has_caught_up-clause-talk g c address lines =
    let v = viewer address c.loop.watcher lines in
    let few : has_caught_up v.replica ≡ true = sym c.has_caught_up.ensures ∙ c.if-has_caught_up.true in
    goes_to _ (receive (viewer address c.args.watcher.now lines) ToCatchUp) (receive v ToCatchUp) (finish v []) c.args.link.now c.loop.link
    (caught_up v few) (c.loop.invariant.talk address lines)

pub loop-preserved : goal.loop-preserved
loop-preserved g c = record {
  kept = kept_on c.args.watcher.now c.loop.watcher c.hear_on.new.watcher c.loop.invariant.kept c.hear_on.ensures.kept;
  ready = c.in_ok-hear_on.ensures.ready;
  talk = λ address lines.
      let v = viewer address c.loop.watcher lines in
      let many : has_caught_up v.replica ≡ false = sym c.has_caught_up.ensures ∙ c.if-has_caught_up.false in
      let from = receive (viewer address c.args.watcher.now lines) ToCatchUp in
      goes_on _ (link_acts_behind _) from (Receiving v ToCatchUp) (receive (viewer address c.hear_on.new.watcher lines) ToCatchUp) c.args.link.now c.loop.link c.hear_on.new.link
      (goes_to _ from (receive v ToCatchUp) (Receiving v ToCatchUp) c.args.link.now c.loop.link (not_caught_up v many) (c.loop.invariant.talk address lines))
      (c.in_ok-hear_on.ensures.talk address lines ToCatchUp tt);
}

pub returns-in_err-hear_on-clause-talk : goal.returns-in_err-hear_on-clause-talk
returns-in_err-hear_on-clause-talk g c address lines =
    let v = viewer address c.loop.watcher lines in
    let many : has_caught_up v.replica ≡ false = sym c.has_caught_up.ensures ∙ c.if-has_caught_up.false in
    let from = receive (viewer address c.args.watcher.now lines) ToCatchUp in
    rw (handed_on c.from_residual.result c.in_err-hear_on.field-0.0 c.from_residual.ensures.1)
    (goes_and_stops _ (link_acts_behind _) from (Receiving v ToCatchUp) c.in_err-hear_on.field-0.0 c.args.link.now c.loop.link c.hear_on.new.link
    (goes_to _ from (receive v ToCatchUp) (Receiving v ToCatchUp) c.args.link.now c.loop.link (not_caught_up v many) (c.loop.invariant.talk address lines))
    (c.in_err-hear_on.ensures.talk address lines ToCatchUp tt))
