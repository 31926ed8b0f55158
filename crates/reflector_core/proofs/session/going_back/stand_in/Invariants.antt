use Rattle.std.proofs.Common.{◌≡◌, take}
use Rattle.resend_table.specs.Stands.{stand_of}
use Rattle.reflector_core.proofs.session.going_back.stand_in.Given as goal

abbrev pub invariant-loop-place : goal.invariant-loop-place
invariant-loop-place l = l.stand ≡ stand_of (take l.place l.log.entries) l.view
