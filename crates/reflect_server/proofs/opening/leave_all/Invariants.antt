use Rattle.std.proofs.Common.{◌≡◌, take}
use Rattle.reflect_server.specs.Opening.{HasMadeLeaves}
use Rattle.reflect_server.proofs.opening.leave_all.Given as goal

abbrev pub invariant-loop-one : goal.invariant-loop-one
invariant-loop-one g l = record {
  kept : l.pass ≡ record l.initial.pass { seen = l.pass.seen };
  made : HasMadeLeaves (g.C.Clock.gives l.clock) (take l.one-index l.views) l.initial.pass l.pass;
}
