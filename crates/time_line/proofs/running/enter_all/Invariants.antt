use Rattle.std.proofs.Common.{◌≡◌, ◌+◌, ◌-◌, drop, take}
use Rattle.model_solved.specs.Founding.{checked_tree}
use Rattle.time_line.specs.Keyframes.{after_entries}
use Rattle.time_line.proofs.LineLaws.{GoesOn}
use Rattle.time_line.proofs.running.enter_all.Given as goal

-- the entries that are left lead from this world to where all lead from the one at the beginning
abbrev pub invariant-loop-place : goal.invariant-loop-place
invariant-loop-place g l = record {
  goes :
      GoesOn l.fn.world.program l.log.entries l.to l.place (after_entries (checked_tree l.fn.world.program) l.fn.world.scene.world (take (l.to - l.from) (drop l.from l.log.entries))) l.world;
  counted : l.steps ≡ l.fn.steps + (l.place - l.from);
}
