use Rattle.std.proofs.Common.{◌≡◌, fold, take, string_bytes}
use Rattle.command_hub.specs.HubRun.{HubRun, hub_run}
use Rattle.command_hub.proofs.run.run_lines.Given as goal

-- the lines so far
abbrev pub invariant-loop-line : goal.invariant-loop-line
invariant-loop-line l = record { hub = l.hub; text = string_bytes l.text } ≡ hub_run (take l.line-index l.lines)
