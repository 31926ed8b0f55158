use Rattle.std.proofs.Common.{◌+◌, ◌≤◌, List, [], length, refl, sym, subst, arith}
use Rattle.run_steps.specs.Outside.{links_tell, output_tells}
use Rattle.view_script.specs.PlainLine.{PlainLine}
use Rattle.view_shell.specs.declared.ending.ViewEnd.TheVariants as ending
use Rattle.view_shell.specs.declared.lines.LineOutcome.TheVariants as flow
use Rattle.view_shell.specs.Phases.{Over}
use Rattle.view_shell.specs.Viewers.{HasRoomFor}
use Rattle.view_shell.proofs.LineTurns.{leave_goes, leave_stops, line_cuts, line_flows, line_stops}
use Rattle.view_shell.proofs.Scripts.{drop_plain, few_plain, fits_here, room_now, room_on}
use Rattle.view_shell.proofs.Going.{handed_on}
use Rattle.view_shell.proofs.lines.run_lines.Goals as goal

pub loop-place-init : goal.loop-place-init
loop-place-init g c = record { ready = c.requires.ready; fit = c.requires.fit; room = c.requires.room; talk = λ address. record { steps = []; walks = refl; acts = refl } }

pub run_line-requires-clause-fits : goal.run_line-requires-clause-fits
run_line-requires-clause-fits g c = (fits_here c.args.lines.now c.loop-place.place c.index-lines-place.result c.loop-place-test.true c.index-lines-place.is c.loop-place.invariant.fit).0

pub run_line-requires-clause-room : goal.run_line-requires-clause-room
run_line-requires-clause-room g c = room_now c.args.lines.now c.loop-place.place c.index-lines-place.result c.loop-place-test.true c.index-lines-place.is c.loop-place.watcher c.loop-place.invariant.room

pub loop-place-preserved : goal.loop-place-preserved
loop-place-preserved g c = record {
  ready = c.in_ok-run_line.ensures.ready;
  fit = (fits_here c.args.lines.now c.loop-place.place c.index-lines-place.result c.loop-place-test.true c.index-lines-place.is c.loop-place.invariant.fit).1;
  room = room_on c.args.lines.now c.loop-place.place c.index-lines-place.result c.loop-place-test.true c.index-lines-place.is c.loop-place.watcher c.run_line.new.watcher c.in_ok-run_line.ensures.count c.loop-place.invariant.room;
  talk = λ address.
      let out = output_tells g.W.Sink in
      let links = links_tell g.L.Link in
      line_flows out links address c.loop-place.watcher c.args.lines.now c.loop-place.place _ _ _ _ (c.loop-place.invariant.talk address)
      c.index-lines-place.result c.loop-place-test.true c.index-lines-place.is c.run_line.new.watcher c.in_ok-run_line.field-0 (c.in_ok-run_line.ensures.talk address _) flow.GoesOn c.in-GoesOn.is;
}

pub returns-in_err-run_line-clause-talk : goal.returns-in_err-run_line-clause-talk
returns-in_err-run_line-clause-talk g c address =
    let out = output_tells g.W.Sink in
    let links = links_tell g.L.Link in
    rw (handed_on c.from_residual.result c.in_err-run_line.field-0.0 c.from_residual.ensures.1)
    (line_stops out links address c.loop-place.watcher c.args.lines.now c.loop-place.place _ _ _ _ (c.loop-place.invariant.talk address)
    c.index-lines-place.result c.loop-place-test.true c.index-lines-place.is c.in_err-run_line.field-0.0 (c.in_err-run_line.ensures.talk address _))

pub returns-in-Leaves-clause-talk : goal.returns-in-Leaves-clause-talk
returns-in-Leaves-clause-talk g c address =
    let out = output_tells g.W.Sink in
    let links = links_tell g.L.Link in
    line_flows out links address c.loop-place.watcher c.args.lines.now c.loop-place.place _ _ _ _ (c.loop-place.invariant.talk address)
    c.index-lines-place.result c.loop-place-test.true c.index-lines-place.is c.run_line.new.watcher c.in_ok-run_line.field-0 (c.in_ok-run_line.ensures.talk address _) flow.Leaves c.in-Leaves.is

pub returns-in-Cuts-clause-talk : goal.returns-in-Cuts-clause-talk
returns-in-Cuts-clause-talk g c address =
    let out = output_tells g.W.Sink in
    let links = links_tell g.L.Link in
    line_cuts out links address c.loop-place.watcher c.args.lines.now c.loop-place.place _ _ _ _ (c.loop-place.invariant.talk address)
    c.index-lines-place.result c.loop-place-test.true c.index-lines-place.is c.run_line.new.watcher c.in_ok-run_line.field-0 (c.in_ok-run_line.ensures.talk address _) c.in-Cuts.is

pub returns-in-Cuts-clause-room : goal.returns-in-Cuts-clause-room
returns-in-Cuts-clause-room g c =
    let all = c.args.lines.now in
    let i = c.loop-place.place in
    let within : i + 1 ≤ length all = omega (arith, c.loop-place-test.true) in (
      few_plain all (i + 1) within,
      subst (λ (ls : List PlainLine). HasRoomFor c.run_line.new.watcher ls) (sym (drop_plain all (i + 1) within))
          (room_on all i c.index-lines-place.result c.loop-place-test.true c.index-lines-place.is c.loop-place.watcher c.run_line.new.watcher c.in_ok-run_line.ensures.count c.loop-place.invariant.room),
    )

pub returns-clause-talk : goal.returns-clause-talk
returns-clause-talk g c address =
    let out = output_tells g.W.Sink in
    let links = links_tell g.L.Link in
    leave_goes out links address c.loop-place.watcher c.args.lines.now c.loop-place.place _ _ _ _ (c.loop-place.invariant.talk address)
    c.loop-place-test.false (Over ending.Done) (c.in_ok-leave.ensures.talk address [])

pub returns-in_err-leave-clause-talk : goal.returns-in_err-leave-clause-talk
returns-in_err-leave-clause-talk g c address =
    let out = output_tells g.W.Sink in
    let links = links_tell g.L.Link in
    rw (handed_on c.from_residual-in_err-leave.result c.in_err-leave.field-0.0 c.from_residual-in_err-leave.ensures.1)
    (leave_stops out links address c.loop-place.watcher c.args.lines.now c.loop-place.place _ _ _ _ (c.loop-place.invariant.talk address)
    c.loop-place-test.false c.in_err-leave.field-0.0 (c.in_err-leave.ensures.talk address []))
