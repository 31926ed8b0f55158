-- The event of a vote, once it was published.
use Rattle.std.proofs.Common.{◌≡◌, Ok, Err, ap, ◌∙◌}
use Rattle.std.specs.Prelude.{⊤, Result, OnOk}
use Rattle.model_value.specs.Payload.{PlainPayload, payload_spelling}
use Rattle.replica.specs.View.{ReplicaView, with_plain}
use Rattle.replica_plain.specs.Calls.{publishes}
use Rattle.view_shell.specs.declared.ending.ViewEnd.{ViewEnd}

pub voted_event : (r r' : ReplicaView) (payload vote : PlainPayload) (done : Result ⊤ ViewEnd) → payload ≡ vote → OnOk done (r' ≡ with_plain r (publishes r.plain (payload_spelling payload)))
    → OnOk done (r' ≡ with_plain r (publishes r.plain (payload_spelling vote)))
voted_event r r' payload vote (Ok it) is publishes_it = publishes_it ∙ ap (λ (p : PlainPayload). with_plain r (publishes r.plain (payload_spelling p))) is
voted_event r r' payload vote (Err end) is publishes_it = tt
