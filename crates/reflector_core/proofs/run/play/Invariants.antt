use Rattle.std.proofs.Common.{◌≡◌, ◌++◌, drop}
use Rattle.reflector_core.specs.PlainSession.{IsSoundSession}
use Rattle.reflector_core.specs.Play.{after_all, replies_from}
use Rattle.reflector_core.proofs.run.play.Given as goal

-- what is done, and then what the rest makes of it, is what all make of the opening session
abbrev pub invariant-loop-request : goal.invariant-loop-request
invariant-loop-request l = record {
  replies : l.replies ++ replies_from l.session.plain (drop l.request-index l.requests) ≡ replies_from l.fn.opening.plain l.requests;
  session : after_all l.session.plain (drop l.request-index l.requests) ≡ after_all l.fn.opening.plain l.requests;
  sound : IsSoundSession l.session.plain;
}
