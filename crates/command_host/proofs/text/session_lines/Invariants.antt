use Rattle.std.proofs.Common.{◌≡◌, ◌+◌, ◌++◌, drop, string_bytes}
use Rattle.command_host.specs.HostedSteps.{session_lines}
use Rattle.command_host.proofs.text.session_lines.Given as goal

-- the text so far, and the lines of the sessions that are left
abbrev pub invariant-loop-place : goal.invariant-loop-place
invariant-loop-place l = string_bytes l.text ++ session_lines l.listed (l.place + 1) (drop l.place l.ids) (drop l.place l.sessions) ≡ session_lines l.listed 1 l.ids l.sessions
