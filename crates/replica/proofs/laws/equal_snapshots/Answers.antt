use Rattle.std.proofs.Common.{◌≡◌, ℕ, List, true, sym, ap, subst, ◌∙◌}
use Rattle.tea_base.specs.declared.entry.Entry.{Entry}
use Rattle.model_solved.specs.Founding.{CheckedView, founding_of, IsFounding}
use Rattle.world.specs.Worlds.{replay}
use Rattle.snapshot_codec.specs.Spelling.{world_spelling}
use Rattle.replica_plain.specs.Following.{FollowsLog}
use Rattle.replica_plain.proofs.WorldSteps.{rest_is_replay}
use Rattle.replica.specs.RealWorlds.{is_at_rest}
use Rattle.replica.specs.View.{ReplicaView, worlds_of}
use Rattle.replica.proofs.laws.equal_snapshots.Goals as goal

pub returns : goal.returns
returns c =
    let replays : (r : ReplicaView) (log : List Entry) → IsFounding (founding_of r.program) → FollowsLog (worlds_of r) log r.plain → is_at_rest r.plain.world ≡ true → r.plain.world ≡ (replay (founding_of r.program) r.id log r.plain.world.time).world =
    λ r log p follows rests.
    rest_is_replay (worlds_of r) (c.worlds_stand.ensures (founding_of r.program) r.id p) log r.plain.world follows.valid follows.follows rests
    ∙ sym (c.worlds_replay.ensures.replays (founding_of r.program) r.id log r.plain.world.time) in
    record {
      replays = replays;
      snapshots = λ r other log p program session follows others rests other_rests timed.
          let q = subst (λ (classes : CheckedView). IsFounding (founding_of classes)) (sym program) p in
          ap world_spelling
          (replays r log p follows rests
          ∙ ap (λ (t : ℕ). (replay (founding_of r.program) r.id log t).world) timed
          ∙ ap (λ (id : List ℕ). (replay (founding_of r.program) id log other.plain.world.time).world) (sym session)
          ∙ ap (λ (classes : CheckedView). (replay (founding_of classes) other.id log other.plain.world.time).world) (sym program)
          ∙ sym (replays other log q others other_rests));
    }
