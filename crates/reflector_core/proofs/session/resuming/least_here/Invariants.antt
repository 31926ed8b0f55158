use Rattle.reflector_core.proofs.NextHereLaws.{HasFound}
use Rattle.reflector_core.proofs.session.resuming.least_here.Given as goal

abbrev pub invariant-loop-i : goal.invariant-loop-i
invariant-loop-i l = HasFound l.log.entries l.above l.i l.found
