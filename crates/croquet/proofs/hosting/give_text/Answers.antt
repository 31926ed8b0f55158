use Rattle.std.proofs.Common.{false}
use Rattle.command_outcome.specs.Outcome.{steps_of}
use Rattle.command_host.specs.HostedSteps.{hosted_text}
use Rattle.croquet.proofs.ReflectorRuns.{ran_cut, ran_told}
use Rattle.croquet.proofs.Runs.{ran_wanting}
use Rattle.croquet.proofs.hosting.give_text.Goals as goal

pub returns-in_default : goal.returns-in_default
returns-in_default g c = ran_wanting _ _ _ c.args.files.now c.args.out.now c.tell_want_of_memory.new.out c.tell_want_of_memory.result c.tell_want_of_memory.ensures

pub returns-in-Ok-give : goal.returns-in-Ok-give
returns-in-Ok-give g c =
    ran_told _ _ (hosted_text c.args.listed c.args.hosted.now.ids c.args.hosted.now.ends c.args.hosted.now.sessions) false c.args.hosted.now.stopped (steps_of c.in-Ok.outcome.files c.in-Ok.outcome.text) (rw (c.as_slice-ids.ensures, c.as_slice-ends.ensures, c.as_slice.ensures) at c.in-Ok.ensures)
    c.args.files.now c.give.new.files c.args.out.now c.give.new.out c.tell_end.new.out c.tell_end.result c.in-Ok-give.ensures c.tell_end.ensures

pub returns : goal.returns
returns g c =
    ran_cut _ _ (hosted_text c.args.listed c.args.hosted.now.ids c.args.hosted.now.ends c.args.hosted.now.sessions) false c.args.hosted.now.stopped (steps_of c.in-Ok.outcome.files c.in-Ok.outcome.text) (rw (c.as_slice-ids.ensures, c.as_slice-ends.ensures, c.as_slice.ensures) at c.in-Ok.ensures)
    c.args.files.now c.give.new.files c.args.out.now c.give.new.out c.in-Err.status c.in-Err.ensures
