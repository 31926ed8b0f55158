use Rattle.model_solved.specs.Founding.{checked_tree}
use Rattle.world.specs.Worlds.{entries_behind, replay_from}
use Rattle.command_replay.proofs.WorldLaws.{GoesOn}
use Rattle.command_replay.proofs.world_run.go_on.Given as goal

-- the entries that are left lead from this world to where all behind the first ones lead
abbrev pub invariant-loop-place : goal.invariant-loop-place
invariant-loop-place l =
    GoesOn l.fn.world.program l.time l.log.entries l.place
    (replay_from (checked_tree l.fn.world.program) l.time (entries_behind l.fn.world.scene.world.time l.log.entries) l.fn.world.scene) l.world
