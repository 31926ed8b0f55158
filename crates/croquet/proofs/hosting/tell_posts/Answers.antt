use Rattle.command_host.specs.Hosting.{log_names}
use Rattle.croquet.proofs.PostRuns.{ran_unposted}
use Rattle.croquet.proofs.hosting.tell_posts.Goals as goal

pub returns-in-Ok : goal.returns-in-Ok
returns-in-Ok g c = rw c.in-Ok.is c.give_posts.ensures

pub returns-in-Err : goal.returns-in-Err
returns-in-Err g c =
    rw c.in-Err.is (ran_unposted _ _ (log_names c.args.places.logs) c.args.places.prefix c.in-Err.fault c.args.files.now c.args.out.now c.tell_fault.new.out c.tell_fault.result c.tell_fault.ensures)
