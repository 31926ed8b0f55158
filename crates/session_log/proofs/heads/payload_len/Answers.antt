use Rattle.std.proofs.Common.{arith}
use Rattle.session_log.proofs.HeadLaws.{event_len}
use Rattle.session_log.proofs.heads.payload_len.Goals as goal

pub returns-in-Event : goal.returns-in-Event
returns-in-Event c = λ payloads within. let long = event_len payloads c.args.kind _ c.in-Event.place c.in-Event.is within in omega (arith, long)
