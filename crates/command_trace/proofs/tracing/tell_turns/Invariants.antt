use Rattle.std.proofs.Common.{string_bytes}
use Rattle.model_tree.specs.TreeView.{program_tree}
use Rattle.world.specs.Worlds.{enough}
use Rattle.command_trace.proofs.StepLaws.{Turns}
use Rattle.command_trace.proofs.tracing.tell_turns.Given as goal

-- the turns so far
abbrev pub invariant-turns : goal.invariant-turns
invariant-turns l = Turns (program_tree l.classes) l.from l.until l.fn.world (string_bytes l.fn.text) l.world (string_bytes l.text)

abbrev pub decreases-turns : goal.decreases-turns
decreases-turns l = enough l.until l.world.scene.world
