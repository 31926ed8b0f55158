use Rattle.command_reflect.specs.ReflectedSteps.{log_name}
use Rattle.commands.specs.Verdict.{ByReflecting, Only, at_once}
use Rattle.commands.specs.Work.{plain_reflection}
use Rattle.croquet.proofs.ReflectorRuns.{looked_on, ran_unlooked}
use Rattle.croquet.proofs.top.ready.Goals as goal

pub returns-in-Ok-clause-turns : goal.returns-in-Ok-clause-turns
returns-in-Ok-clause-turns g c =
    looked_on _ _ (log_name c.args.reflection.log) (ByReflecting (plain_reflection c.args.reflection)) c.args.files.now c.look_for_log.new.files c.args.out.now c.look_for_log.new.out c.in-Ok.ensures

pub returns-in-Err-clause-turns : goal.returns-in-Err-clause-turns
returns-in-Err-clause-turns g c =
    ran_unlooked _ _ (log_name c.args.reflection.log) (Only (at_once (ByReflecting (plain_reflection c.args.reflection)))) c.args.files.now c.look_for_log.new.files c.args.out.now c.look_for_log.new.out c.in-Err.status c.in-Err.ensures
