use Rattle.command_outcome.proofs.Numbered.{puts_on}
use Rattle.command_drill.proofs.drilled.put_snapshots.Goals as goal

pub loop-bytes-preserved : goal.loop-bytes-preserved
loop-bytes-preserved c =
    puts_on c.args.prefix.now c.in-Some.bytes c.args.files.now c.loop-bytes.files c.put_numbered.new.files c.loop-bytes.yielded c.len.result
    c.loop-bytes.invariant c.len.ensures c.in_ok-put_numbered.ensures
