-- What is pulled from a session, from its beginning on, is a batch of its first entries.
use Rattle.std.proofs.Common.{◌≡◌, ◌≤◌, Result, Ok, Err, IfOk, length, arith}
use Rattle.reflector_core.specs.PlainSession.{PlainSession, IsSoundSession}
use Rattle.reflector_core.specs.Answer.{answer, with_reply}
use Rattle.reflector_core.specs.declared.request.Reply.{Reply}
use Rattle.reflector_core.specs.declared.request.Request.TheVariants.{Pull}
use Rattle.join_sync.specs.Batches.{IsBatchAfter, most_pulled}
use Rattle.join_sync.proofs.Pulls.{told_batch}

pub pulled_batch : {E : Type 0} (r : Result Reply E) (s new : PlainSession) → IsSoundSession s → IfOk r (λ reply. with_reply new reply ≡ answer s (Pull 0 most_pulled)) → IfOk r (λ reply. IsBatchAfter 0 reply)
pulled_batch (Ok reply) s new sound told =
    let within : 0 ≤ length s.log = omega arith in
    told_batch s new 0 most_pulled reply sound.legal within told
pulled_batch (Err fault) s new sound told = tt
