use Rattle.std.proofs.Common.{◌≡◌, ◌≤◌, length, take}
use Rattle.host_config.specs.Programs.{programs_of}
use Rattle.host_config.proofs.programs.programs_of.Given as goal

-- the programs of the sessions so far
abbrev pub invariant-loop-session : goal.invariant-loop-session
invariant-loop-session l = (l.names ≡ programs_of (take l.session-index l.sessions)) × (length l.names ≤ l.session-index)
