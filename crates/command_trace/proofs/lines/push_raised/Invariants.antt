use Rattle.std.proofs.Common.{◌≡◌, ◌++◌, drop, string_bytes}
use Rattle.command_trace.specs.TraceText.{raised_lines, fault_words}
use Rattle.command_trace.proofs.lines.push_raised.Given as goal

-- the lines so far, and those of the kinds that are left
abbrev pub invariant-loop-place : goal.invariant-loop-place
invariant-loop-place l =
    string_bytes l.text ++ raised_lines (drop l.place fault_words) (drop l.place l.before) (drop l.place l.after) ≡ string_bytes l.fn.text ++ raised_lines fault_words l.before l.after
