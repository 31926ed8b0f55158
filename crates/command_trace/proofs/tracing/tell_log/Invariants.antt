use Rattle.std.proofs.Common.{string_bytes}
use Rattle.model_tree.specs.TreeView.{program_tree}
use Rattle.command_trace.proofs.LogLaws.{Entered}
use Rattle.command_trace.proofs.tracing.tell_log.Given as goal

-- the entries so far
abbrev pub invariant-loop-place : goal.invariant-loop-place
invariant-loop-place l = Entered (program_tree l.classes) l.stretch.from l.stretch.to l.place l.log.entries l.fn.world (string_bytes l.fn.text) l.world (string_bytes l.text)
