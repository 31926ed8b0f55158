use Rattle.std.proofs.Common.{arith}
use Rattle.byte_fields.proofs.Answers.{answers_spelled, answers_fit, answers_bad, answers_only}
use Rattle.model_value.specs.declared.fault.ValueFault.TheVariants.{BadValue}
use Rattle.model_value.specs.Payload.{plain_payload}
use Rattle.model_value.specs.Plain.{InBounds}
use Rattle.model_value.proofs.PayloadCodec.{payload_codec, is_payload, payload-in_bounds}
use Rattle.model_value.proofs.payloads.read_payload.Goals as goal

pub returns-clause-spelled : goal.returns-clause-spelled
returns-clause-spelled c = answers_spelled BadValue plain_payload c.read_all.result c.args.bytes.now payload_codec (λ i. omega (arith, c.type_inv.bytes i)) c.read_all.ensures

pub returns-clause-bounds : goal.returns-clause-bounds
returns-clause-bounds c = answers_fit BadValue plain_payload c.read_all.result c.args.bytes.now payload_codec (λ i. omega (arith, c.type_inv.bytes i)) c.read_all.ensures (λ p. InBounds p.value) payload-in_bounds

pub returns-clause-bad : goal.returns-clause-bad
returns-clause-bad c = λ bad p is. answers_bad BadValue plain_payload c.read_all.result c.args.bytes.now payload_codec c.read_all.ensures bad p (is_payload p is)

pub returns-clause-only : goal.returns-clause-only
returns-clause-only c = λ p is. answers_only BadValue plain_payload c.read_all.result c.args.bytes.now payload_codec c.read_all.ensures p (is_payload p is)
