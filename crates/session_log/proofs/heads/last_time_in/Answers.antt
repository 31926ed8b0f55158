use Rattle.session_log.proofs.TimeLaws.{last_time_at}
use Rattle.std.proofs.Common.{sym}
use Rattle.session_log.proofs.heads.last_time_in.Goals as goal

pub returns-in-Some : goal.returns-in-Some
returns-in-Some c = λ payloads. last_time_at payloads c.args.heads.now c.in-Some.head.now (sym c.in-Some.ensures.value)
