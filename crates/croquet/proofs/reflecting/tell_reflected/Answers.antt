use Rattle.command_reflect.specs.ReflectedSteps.{log_name}
use Rattle.croquet.proofs.ReflectorRuns.{ran_failed}
use Rattle.croquet.proofs.reflecting.tell_reflected.Goals as goal

pub returns-in-Ok : goal.returns-in-Ok
returns-in-Ok g c = rw c.in-Ok.is c.give_reflected.ensures

pub returns-in-Err : goal.returns-in-Err
returns-in-Err g c =
    rw c.in-Err.is (ran_failed _ _ (log_name c.args.log) c.in-Err.fault c.args.files.now c.args.out.now c.tell_fault.new.out c.tell_fault.result c.tell_fault.ensures)
