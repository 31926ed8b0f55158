use Rattle.std.proofs.Common.{Some}
use Rattle.tea_io.proofs.Writing.{GrowsWithin-nothing}
use Rattle.case_lines.proofs.wanting.WantingSinkSink.write.Goals as goal

pub returns-then-self-clause-part : goal.returns-then-self-clause-part
returns-then-self-clause-part c = GrowsWithin-nothing (Some c.args.self.now.out.written) c.args.bytes.now
