use Rattle.std.proofs.Common.{take}
use Rattle.std.specs.Arc.{arc_value}
use Rattle.system_core.specs.Schedules.{plain_steps}
use Rattle.system_core.proofs.Runs.{HasRun}
use Rattle.system_core.proofs.run.Given as goal

-- the system is that of the steps so far
abbrev pub invariant-loop-step : goal.invariant-loop-step
invariant-loop-step l = HasRun (arc_value l.fn.program) l.fn.id.0 (plain_steps (take l.step-index l.list)) l.system
