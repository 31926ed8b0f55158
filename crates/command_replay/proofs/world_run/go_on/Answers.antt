use Rattle.std.proofs.Common.{◌+◌, ◌-◌, ◌∙◌, ap, arith}
use Rattle.tea_base.specs.Readings.{count_until}
use Rattle.model_solved.specs.Founding.{checked_tree}
use Rattle.world.specs.Worlds.{Scene, entries_behind, replay_from}
use Rattle.command_replay.proofs.WorldLaws.{handles, next_later, passes, starts_on, time_there, timed_at}
use Rattle.command_replay.proofs.world_run.go_on.Goals as goal
use Rattle.command_replay.proofs.world_run.go_on.Goals.{then-time_of-time+in_ok-entry+in_ok-handle+in-Event-1, then-time_of-time+in_ok-entry+in_ok-handle+in-Join-1, else-time_of-time}

pub loop-place-init : goal.loop-place-init
loop-place-init c =
    starts_on c.args.time c.args.log.now.entries c.count_until-place.result c.args.world.now
    (c.count_until-place.ensures ∙ ap (count_until c.args.log.now.entries) c.time.ensures.time) c.len-place-end.ensures.legal c.requires.whole c.requires.early

pub handle-requires-clause-later : goal.handle-requires-clause-later
handle-requires-clause-later c =
    next_later c.args.world.now.program c.args.time c.args.log.now.entries c.loop-place.place _ c.loop-place.world c.in_ok-entry.entry c.in_ok-entry.ensures c.loop-place.invariant

pub loop-place-preserved : goal.loop-place-preserved
loop-place-preserved c =
    let classes = c.args.world.now.program in
    let log = c.args.log.now.entries in
    let place = c.loop-place.place in
    let last : Scene = replay_from (checked_tree classes) c.args.time (entries_behind c.args.world.now.scene.world.time log) c.args.world.now.scene in
    let there = timed_at log (place + 1 - 1) c.time_of.result c.time_of.ensures in
    elim c.if-time_of-time.branch [
      | then-time_of-time+in_ok-entry+in_ok-handle+in-Event-1 w ↦ rw w.world-is (handles classes c.args.time log place last c.loop-place.world w.in_ok-entry.entry w.in_ok-entry.ensures c.loop-place.invariant w.handle.new.world (omega (arith, time_there log (place + 1 - 1) c.time_of.result w.in_ok-entry.entry w.in_ok-entry.ensures c.time_of.ensures, w.if-time_of-time.true)) w.in_ok-handle.ensures.handled w.in_ok-handle.ensures.arrives)
      | then-time_of-time+in_ok-entry+in_ok-handle+in-Join-1 w ↦ rw w.world-is (handles classes c.args.time log place last c.loop-place.world w.in_ok-entry.entry w.in_ok-entry.ensures c.loop-place.invariant w.handle.new.world (omega (arith, time_there log (place + 1 - 1) c.time_of.result w.in_ok-entry.entry w.in_ok-entry.ensures c.time_of.ensures, w.if-time_of-time.true)) w.in_ok-handle.ensures.handled w.in_ok-handle.ensures.arrives)
      | else-time_of-time w ↦ rw w.world-is (passes classes c.args.time log place last c.loop-place.world there.0 there.1 c.loop-place.invariant (omega (arith, there.2, w.if-time_of-time.false)))
    ]
