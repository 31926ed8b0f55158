use Rattle.std.proofs.Common.{◌≡◌, ℕ, List, sym, ap, subst, ◌∙◌}
use Rattle.tea_base.specs.declared.entry.Entry.{Entry}
use Rattle.model_solved.specs.Founding.{Founding}
use Rattle.world_plain.specs.World.{WorldRecord}
use Rattle.world.specs.Worlds.{advance, first_scene, replay, take_up}
use Rattle.replica_plain.specs.Worlds.{replay_world, entries_until}
use Rattle.replica.specs.RealWorlds.{worlds}
use Rattle.replica.proofs.Replays.{fold-externals}
use Rattle.replica.proofs.laws.worlds_replay.Goals as goal

pub returns : goal.returns
returns c =
    let same : (founding : Founding) (id : List ℕ) (log : List Entry) (t : ℕ) → (replay founding id log t).world ≡ replay_world (worlds founding id) log t =
    λ founding id log t. c.replay_folds.ensures.world founding id log t
    ∙ ap (λ (w : WorldRecord). (advance founding.tree t (take_up w)).world) (fold-externals founding id (first_scene founding id).world (entries_until t log)) in
    record {
      replays = same;
      follows = λ founding id log t is legal below.
          let w = (replay founding id log t).world in
          subst (λ u. (advance founding.tree u (take_up w)).world ≡ replay_world (worlds founding id) log u) (sym (c.replay_rests.ensures.time founding id log t is legal below))
          (c.replay_rests.ensures.stays founding id log t is legal below ∙ same founding id log t);
    }
