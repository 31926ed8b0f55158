use Rattle.std.proofs.Common.{arith}
use Rattle.byte_fields.proofs.Answers.{answers_spelled, answers_fit, answers_bad, answers_only}
use Rattle.model_value.specs.declared.fault.ValueFault.TheVariants.{BadValue}
use Rattle.model_value.specs.Plain.{InBounds}
use Rattle.model_value.specs.View.{plain}
use Rattle.model_value.proofs.ValueCodec.{bounded_codec, is_bounded, InBounds-is_in_bounds}
use Rattle.model_value.proofs.reading.decode.Goals as goal

pub returns-clause-spelled : goal.returns-clause-spelled
returns-clause-spelled c = answers_spelled BadValue plain c.read_all.result c.args.bytes.now bounded_codec (λ i. omega (arith, c.type_inv.bytes i)) c.read_all.ensures

pub returns-clause-bounds : goal.returns-clause-bounds
returns-clause-bounds c = answers_fit BadValue plain c.read_all.result c.args.bytes.now bounded_codec (λ i. omega (arith, c.type_inv.bytes i)) c.read_all.ensures InBounds (λ v fits. InBounds-is_in_bounds v fits.1)

pub returns-clause-bad : goal.returns-clause-bad
returns-clause-bad c = λ bad v is fits. answers_bad BadValue plain c.read_all.result c.args.bytes.now bounded_codec c.read_all.ensures bad v (is_bounded v is fits)

pub returns-clause-only : goal.returns-clause-only
returns-clause-only c = λ v is fits. answers_only BadValue plain c.read_all.result c.args.bytes.now bounded_codec c.read_all.ensures v (is_bounded v is fits)
