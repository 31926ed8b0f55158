-- The worlds of a program with its persisted value and of a session, as replicas want worlds.
use Rattle.std.specs.Prelude.{ℕ, ◌&&◌, bytes_eq, List}
use Rattle.model_solved.specs.Founding.{Founding}
use Rattle.world_plain.specs.Messages.{PlainOutgoing}
use Rattle.world_plain.specs.ValidTest.{is_valid}
use Rattle.world_plain.specs.World.{WorldRecord}
pub use Rattle.world.specs.View.{is_at_rest}
use Rattle.world.specs.Worlds.{field_counts, first_scene, external, advance, take_up}
use Rattle.snapshot_codec.specs.Answer.{snapshot_world}
use Rattle.snapshot_codec.specs.Spelling.{world_spelling}
use Rattle.replica_plain.specs.Worlds.{Worlds}

-- What a world does follows from it alone. What its models publish is told behind what they published before.
abbrev pub worlds : Founding → List ℕ → Worlds WorldRecord PlainOutgoing
worlds founding id =
    let program = founding.tree in
    record {
      session = id;
      first = (first_scene founding id).world;
      first_out = (first_scene founding id).published;
      external = λ w entry. (external program entry (take_up w)).world;
      external_out = λ w entry out. (external program entry (record { world = w; published = out })).published;
      advance = λ w t. (advance program t (take_up w)).world;
      advance_out = λ w t out. (advance program t (record { world = w; published = out })).published;
      time = λ w. w.time;
      valid = λ w. is_valid (field_counts program) w && bytes_eq w.id id;
      at_rest = is_at_rest;
      snapshot = world_spelling;
      unsnap = snapshot_world (field_counts program) id;
    }
