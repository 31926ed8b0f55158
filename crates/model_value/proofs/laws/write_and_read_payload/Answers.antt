use Rattle.std.proofs.Common.{◌≡◌, ◌∙◌}
use Rattle.model_value.specs.Payload.{PlainPayload, payload_spelling}
use Rattle.model_value.specs.View.{plain}
use Rattle.model_value.proofs.PayloadCodec.{only_want}
use Rattle.model_value.proofs.laws.write_and_read_payload.Goals as goal

pub returns-clause-want : goal.returns-clause-want
returns-clause-want c =
    let p : PlainPayload = record { scope = c.args.scope.now; event = c.args.event.now; value = plain c.args.value.now } in
    let spelled : c.bytes-2.result.now ≡ payload_spelling p = c.bytes-2.ensures ∙ c.in_ok-bytes.ensures.spelled in
    only_want c.read_payload.result (λ bad. c.read_payload.ensures.bad bad p (c.in_ok-bytes.ensures.payload c.requires.bounds) spelled)
