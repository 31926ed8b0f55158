use Rattle.std.proofs.Common.{◌≡◌, take}
use Rattle.pubsub.proofs.handler.copy_handlers.Given as goal

abbrev pub invariant-loop-handler : goal.invariant-loop-handler
invariant-loop-handler l = l.copy ≡ take l.handler-index l.handlers
