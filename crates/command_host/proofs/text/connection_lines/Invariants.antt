use Rattle.std.proofs.Common.{◌≡◌, ◌++◌, drop, string_bytes}
use Rattle.command_host.specs.HostedSteps.{connection_lines}
use Rattle.command_host.proofs.text.connection_lines.Given as goal

-- the text so far, and the lines of the connections that are left
abbrev pub invariant-loop-number : goal.invariant-loop-number
invariant-loop-number l = string_bytes l.text ++ connection_lines l.number (drop l.number l.ends) ≡ connection_lines 0 l.ends
