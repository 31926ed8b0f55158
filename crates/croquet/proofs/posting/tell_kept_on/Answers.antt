use Rattle.command_reflect.specs.ReflectedSteps.{log_name}
use Rattle.croquet.proofs.ReflectorRuns.{ran_posts_unkept}
use Rattle.croquet.proofs.posting.tell_kept_on.Goals as goal

pub returns-in-Ok : goal.returns-in-Ok
returns-in-Ok g c = rw c.in-Ok.is c.give_session.ensures

pub returns-in-Err : goal.returns-in-Err
returns-in-Err g c =
    rw c.in-Err.is (ran_posts_unkept _ _ (log_name c.args.log) c.args.unkept c.in-Err.fault c.args.files.now c.args.out.now c.tell_kept_fault.new.out c.tell_kept_fault.result c.tell_kept_fault.ensures)
