use Rattle.std.proofs.Common.{refl}
use Rattle.command_outcome.specs.Outcome.{steps_of}
use Rattle.commands.specs.Verdict.{ByWant}
use Rattle.croquet.specs.Run.{OutOfMemory}
use Rattle.croquet.proofs.DrillRuns.{ran_drilled}
use Rattle.croquet.proofs.Runs.{ran_closed, ran_wanting}
use Rattle.croquet.proofs.drilling.tell_drilled.Goals as goal

pub returns-in_default : goal.returns-in_default
returns-in_default g c =
    rw c.in_default.is (ran_closed _ _ ByWant OutOfMemory c.args.files.now c.args.out.now c.tell_want_of_memory.new.out c.tell_want_of_memory.result (refl, refl) c.tell_want_of_memory.ensures)

pub outcome_of-requires : goal.outcome_of-requires
outcome_of-requires g c = rw c.in-Ok.is at c.requires

pub returns-in-Ok-outcome_of : goal.returns-in-Ok-outcome_of
returns-in-Ok-outcome_of g c =
    rw c.in-Ok.is
    (ran_drilled _ _ c.args.request c.in-Ok.report (steps_of c.in-Ok-outcome_of.outcome.files c.in-Ok-outcome_of.outcome.text) c.args.files.now c.finish.new.files c.args.out.now c.finish.new.out c.finish.result
    c.in-Ok-outcome_of.ensures c.finish.ensures)

pub returns-in-Err : goal.returns-in-Err
returns-in-Err g c =
    rw c.in-Ok.is (ran_wanting _ _ _ c.args.files.now c.args.out.now c.tell_want_of_memory-in-Err.new.out c.tell_want_of_memory-in-Err.result c.tell_want_of_memory-in-Err.ensures)
