use Rattle.croquet.proofs.KeptRuns.{going_cut, going_done}
use Rattle.croquet.proofs.keeping.put_and_resume.Goals as goal

pub returns-in-Ok : goal.returns-in-Ok
returns-in-Ok g c = λ bytes from.
    going_done _ _ g.J.Store.bytes g.J.Store.safe g.J.Store.faults c.args.keeping.now c.args.store c.args.going bytes from c.resume.result c.args.files.now c.give.new.files c.args.out.now c.give.new.out c.resume.new.out c.in-Ok.ensures c.resume.ensures

pub returns-in-Err : goal.returns-in-Err
returns-in-Err g c = λ bytes from.
    going_cut _ _ g.J.Store.bytes g.J.Store.safe g.J.Store.faults c.args.keeping.now c.args.store c.args.going bytes from c.args.files.now c.give.new.files c.args.out.now c.give.new.out c.in-Err.status c.in-Err.ensures
