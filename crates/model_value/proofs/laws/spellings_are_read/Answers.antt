use Rattle.byte_fields.proofs.Codecs.{whole_again}
use Rattle.model_value.proofs.PayloadCodec.{payload_codec, is_payload}
use Rattle.model_value.proofs.ValueCodec.{bounded_codec, is_bounded}
use Rattle.model_value.proofs.laws.spellings_are_read.Goals as goal

pub returns-clause-value : goal.returns-clause-value
returns-clause-value c = λ v is fits. whole_again bounded_codec v (is_bounded v is fits)

pub returns-clause-payload : goal.returns-clause-payload
returns-clause-payload c = λ p is. whole_again payload_codec p (is_payload p is)
