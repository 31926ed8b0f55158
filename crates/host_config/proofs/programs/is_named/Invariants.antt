use Rattle.std.proofs.Common.{◌≡◌, drop}
use Rattle.host_config.specs.Programs.{is_named}
use Rattle.host_config.proofs.programs.is_named.Given as goal

-- it depends on the names that are left
abbrev pub invariant-loop-other : goal.invariant-loop-other
invariant-loop-other l = is_named l.names l.name ≡ is_named (drop l.other-index l.names) l.name
