use Rattle.std.proofs.Common.{◌≡◌, ◌++◌, drop, string_bytes}
use Rattle.command_reflect.specs.ReflectedSteps.{end_lines}
use Rattle.command_reflect.proofs.text.end_lines.Given as goal

-- the text so far, and the lines of the connections that are left
abbrev pub invariant-loop-number : goal.invariant-loop-number
invariant-loop-number l = string_bytes l.text ++ end_lines l.number (drop l.number l.ends) ≡ end_lines 0 l.ends
