use Rattle.std.proofs.Common.{Some}
use Rattle.tea_io.proofs.Writing.{HasWritten-start}
use Rattle.tea_io.proofs.mem_sink.MemSinkSink.write.Goals as goal

pub returns-then-is_failing-clause-part : goal.returns-then-is_failing-clause-part
returns-then-is_failing-clause-part c =
    let nothing = HasWritten-start (Some c.self.inside.written.items) c.args.bytes.now in
    (c.args.bytes.now, rw (← c.self.view_is) nothing)
