use Rattle.command_host.specs.Hosting.{log_names}
use Rattle.commands.specs.Verdict.{ByHosting, Only, at_once, look_steps}
use Rattle.commands.specs.Work.{plain_hosting}
use Rattle.croquet.proofs.HostRuns.{looked_at_all, ran_short}
use Rattle.croquet.proofs.top.ready_to_host.Goals as goal

pub returns-in-Ok-clause-turns : goal.returns-in-Ok-clause-turns
returns-in-Ok-clause-turns g c =
    looked_at_all _ _ (plain_hosting c.args.hosting) c.args.files.now c.look_for_logs.new.files c.args.out.now c.look_for_logs.new.out (rw c.as_slice.ensures at c.in-Ok.ensures)

pub returns-in-Err-clause-turns : goal.returns-in-Err-clause-turns
returns-in-Err-clause-turns g c =
    ran_short _ _ (look_steps (log_names c.args.hosting.logs)) (Only (at_once (ByHosting (plain_hosting c.args.hosting)))) c.args.files.now c.look_for_logs.new.files c.args.out.now c.look_for_logs.new.out c.in-Err.status
    (rw c.as_slice.ensures at c.in-Err.ensures)
