use Rattle.std.proofs.Common.{None, refl}
use Rattle.croquet.specs.declared.status.Status.TheVariants as status
use Rattle.croquet.specs.Run.{Silent}
use Rattle.croquet.proofs.Acts.{does_so}
use Rattle.croquet.proofs.giving.finish.Goals as goal

pub returns-in-Ok : goal.returns-in-Ok
returns-in-Ok g c = does_so _ _ _ None (Silent status.Ok) c.args.files.now c.give.new.files c.args.out.now c.give.new.out c.give.new.out _ c.in-Ok.ensures (refl, refl)

pub returns-in-Err : goal.returns-in-Err
returns-in-Err g c = c.in-Err.ensures (Silent status.Ok)
