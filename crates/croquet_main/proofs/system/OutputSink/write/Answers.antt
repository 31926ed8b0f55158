use Rattle.std.proofs.Common.{None}
use Rattle.tea_io.proofs.Writing.{GrowsWithin-nothing}
use Rattle.croquet_main.proofs.system.OutputSink.write.Goals as goal

pub returns-in-Err-clause-part : goal.returns-in-Err-clause-part
returns-in-Err-clause-part g c = GrowsWithin-nothing None c.args.bytes.now

pub returns-in-Err-2-clause-part : goal.returns-in-Err-2-clause-part
returns-in-Err-2-clause-part g c = GrowsWithin-nothing None c.args.bytes.now
