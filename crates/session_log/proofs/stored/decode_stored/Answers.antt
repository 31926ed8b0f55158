use Rattle.std.proofs.Common.{arith}
use Rattle.byte_fields.proofs.Answers.{answers_spelled, answers_fit, answers_bad, answers_only}
use Rattle.session_log.specs.declared.reading.LogFault.TheVariants.{BadLog}
use Rattle.session_log.specs.Stored.{IsStored, plain_stored}
use Rattle.session_log.proofs.StoredCodec.{stored_codec}
use Rattle.session_log.proofs.stored.decode_stored.Goals as goal

pub returns-clause-sound : goal.returns-clause-sound
returns-clause-sound c = answers_fit BadLog plain_stored c.read_stored.result c.args.bytes.now stored_codec (λ i. omega (arith, c.type_inv.bytes i)) c.read_stored.ensures IsStored (λ s is. is)

pub returns-clause-spelled : goal.returns-clause-spelled
returns-clause-spelled c = answers_spelled BadLog plain_stored c.read_stored.result c.args.bytes.now stored_codec (λ i. omega (arith, c.type_inv.bytes i)) c.read_stored.ensures

pub returns-clause-bad : goal.returns-clause-bad
returns-clause-bad c = answers_bad BadLog plain_stored c.read_stored.result c.args.bytes.now stored_codec c.read_stored.ensures

pub returns-clause-only : goal.returns-clause-only
returns-clause-only c = answers_only BadLog plain_stored c.read_stored.result c.args.bytes.now stored_codec c.read_stored.ensures
