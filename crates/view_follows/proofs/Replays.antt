-- The line of a replica that has the replay of the log to its time.
use Rattle.std.proofs.Common.{◌≡◌, ℕ, List, sym, ap, ◌∙◌}
use Rattle.tea_base.specs.declared.entry.Entry.{Entry}
use Rattle.tea_base.specs.Readings.{count_until}
use Rattle.model_solved.specs.Founding.{Founding}
use Rattle.world.specs.Worlds.{replay}
use Rattle.replica.specs.RealWorlds.{worlds}
use Rattle.replica_plain.specs.Worlds.{replay_world}
use Rattle.view_follows.specs.ViewsReplay.{IsReplayLine, TellsReplayOf}
use Rattle.view_follows.proofs.Stands.{TellsReplay, line_of}

pub tells_replay : (founding : Founding) (id : List ℕ) (view : ℕ) (log : List Entry) (line : List ℕ) → ((t : ℕ) → (replay founding id log t).world ≡ replay_world (worlds founding id) log t) → TellsReplay (worlds founding id) log view line → TellsReplayOf founding id view log line
tells_replay founding id view log line same told =
    let r = told.replica in
    let world = told.has.replayed ∙ sym (same r.world.time) in
    record {
      time = r.world.time;
      timed = sym (ap (λ w. w.time) world);
      told = told.told ∙ line_of (worlds founding id) r view (count_until log r.world.time) (replay founding id log r.world.time).world told.has.its told.has.follows.counted world;
    }

pub replay_line : (founding : Founding) (id : List ℕ) (view : ℕ) (log : List Entry) (line : List ℕ) → ((t : ℕ) → (replay founding id log t).world ≡ replay_world (worlds founding id) log t) → TellsReplay (worlds founding id) log view line → IsReplayLine founding id view log line
replay_line founding id view log line same told = record {
  replica = told.replica;
  own = told.has.its;
  follows = told.has.follows;
  replayed = told.has.replayed ∙ sym (same told.replica.world.time);
  told = told.told;
}
