use Rattle.std.proofs.Common.{◌≡◌, refl, ap, arith}
use Rattle.view_shell.specs.Phases.{ToSee, Receiving}
use Rattle.view_shell.specs.Viewers.{viewer}
use Rattle.view_shell.specs.Hearing.{entry_phase, vote_count, vote_told}
use Rattle.view_shell.proofs.Going.{goes_and_stops, goes_nowhere, goes_on, goes_to, handed_on, link_acts_behind}
use Rattle.view_shell.proofs.hearing.await_entry.Goals as goal

pub loop-init : goal.loop-init
loop-init g c = record { published = refl; ready = c.requires.ready; talk = λ address lines. goes_nowhere _ (Receiving (viewer address c.args.watcher.now lines) (ToSee c.args.at)) c.args.link.now }

pub take_entry-requires-clause-room : goal.take_entry-requires-clause-room
take_entry-requires-clause-room g c = let same = c.loop.invariant.published in let room = c.requires.room in omega (arith, same, room)

pub loop-preserved : goal.loop-preserved
loop-preserved g c = record {
  published =
      let counted = c.in_ok-take_entry.ensures.count in
      let none : vote_count c.in_ok-take_entry.field-0 ≡ 0 = ap vote_count c.if-branch.false in
      let before = c.loop.invariant.published in
      omega (arith, counted, none, before);
  ready = c.in_ok-take_entry.ensures.ready;
  talk = λ address lines.
      let aim = ToSee c.args.at in
      let v = viewer address c.loop.watcher lines in
      let u = viewer address c.take_entry.new.watcher lines in
      goes_on _ (link_acts_behind _) (Receiving (viewer address c.args.watcher.now lines) aim) (Receiving v aim) (Receiving u aim) c.args.link.now c.loop.link c.take_entry.new.link (c.loop.invariant.talk address lines)
      (goes_to _ (Receiving v aim) (entry_phase u c.args.at c.in_ok-take_entry.field-0) (Receiving u aim) c.loop.link c.take_entry.new.link
      (ap (entry_phase u c.args.at) c.if-branch.false) (c.in_ok-take_entry.ensures.talk address lines));
}

pub returns-then-branch-clause-count : goal.returns-then-branch-clause-count
returns-then-branch-clause-count g c =
    let counted = c.in_ok-take_entry.ensures.count in
    let one : vote_count c.in_ok-take_entry.field-0 ≡ 1 = ap vote_count c.if-branch.true in
    let before = c.loop.invariant.published in
    omega (arith, counted, one, before)

pub returns-then-branch-clause-talk : goal.returns-then-branch-clause-talk
returns-then-branch-clause-talk g c address lines =
    let aim = ToSee c.args.at in
    let v = viewer address c.loop.watcher lines in
    let u = viewer address c.take_entry.new.watcher lines in
    goes_on _ (link_acts_behind _) (Receiving (viewer address c.args.watcher.now lines) aim) (Receiving v aim) (vote_told u c.args.at) c.args.link.now c.loop.link c.take_entry.new.link (c.loop.invariant.talk address lines)
    (goes_to _ (Receiving v aim) (entry_phase u c.args.at c.in_ok-take_entry.field-0) (vote_told u c.args.at) c.loop.link c.take_entry.new.link
    (ap (entry_phase u c.args.at) c.if-branch.true) (c.in_ok-take_entry.ensures.talk address lines))

pub returns-in_err-take_entry-clause-talk : goal.returns-in_err-take_entry-clause-talk
returns-in_err-take_entry-clause-talk g c address lines =
    let aim = ToSee c.args.at in
    rw (handed_on c.from_residual.result c.in_err-take_entry.field-0.0 c.from_residual.ensures.1)
    (goes_and_stops _ (link_acts_behind _) (Receiving (viewer address c.args.watcher.now lines) aim) (Receiving (viewer address c.loop.watcher lines) aim) c.in_err-take_entry.field-0.0
    c.args.link.now c.loop.link c.take_entry.new.link (c.loop.invariant.talk address lines) (c.in_err-take_entry.ensures.talk address lines))
