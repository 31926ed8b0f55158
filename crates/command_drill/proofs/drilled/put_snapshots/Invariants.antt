use Rattle.std.proofs.Common.{◌≡◌, ◌++◌, length}
use Rattle.command_outcome.specs.Outcome.{numbered_puts}
use Rattle.command_drill.proofs.drilled.put_snapshots.Given as goal

-- the snapshots so far
abbrev pub invariant-loop-bytes : goal.invariant-loop-bytes
invariant-loop-bytes l = l.files ≡ l.fn.files ++ numbered_puts l.prefix (length l.fn.files) l.yielded
