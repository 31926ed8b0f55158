use Rattle.std.proofs.Common.{arith}
use Rattle.tea_base.proofs.LogLaws.{payload_bytes-legal}
use Rattle.session_log.proofs.log.Log.bytes.Goals as goal

pub returns-clause-bound : goal.returns-clause-bound
returns-clause-bound c = omega (arith, payload_bytes-legal _ c.self.invariant.kept.legal, c.self.invariant.counted)
