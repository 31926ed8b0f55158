-- What a replay leads to, and what is told of it.
use Rattle.std.specs.Prelude.{◌≡◌, ℕ, List, Option, Some, None, string_bytes, false}
use Rattle.model_solved.specs.Founding.{CheckedView, checked_tree, Founding, founding_of}
use Rattle.serde_json.specs.Written.{compact_text}
use Rattle.model_value.specs.Plain.{PlainValue}
use Rattle.persist_json.specs.JsonOf.{data_of}
use Rattle.world_plain.specs.World.{WorldRecord}
use Rattle.world.specs.View.{WorldView}
use Rattle.world.specs.Worlds.{Scene, first_scene as first_world, replay, replay_on, take_up}
use Rattle.snapshot_codec.specs.Spelling.{world_spelling}
use Rattle.command_replay.specs.declared.recording.Recording.{Recording}
use Rattle.command_replay.specs.declared.world_run.Told.{Told}
use Rattle.world_lines.specs.WorldText.{world_line}

-- the world at a time: by the whole log, or from a world that is taken up
abbrev pub world_at : Recording → ℕ → Option WorldRecord → WorldRecord
world_at recording time None = (replay (founding_of recording.program) recording.id.0 recording.log.entries time).world
world_at recording time (Some w) = (replay_on (checked_tree recording.program) w recording.log.entries time).world

-- what a replay begins with: the first world of a session, or one that is taken up
abbrev pub start_scene : Founding → List ℕ → Option WorldRecord → Scene
start_scene founding id None = first_world founding id
start_scene founding id (Some w) = take_up w

-- its time
abbrev pub start_time : Option WorldRecord → ℕ
start_time None = 0
start_time (Some w) = w.time

-- a world that is opened, and not broken
pub record Opens (world : WorldView) (program : CheckedView) (id : List ℕ) (start : Option WorldRecord) : Type 0 where
  pub opened : world ≡ record { program = program; scene = start_scene (founding_of program) id start; broken = false }
  pub time : world.scene.world.time ≡ start_time start

-- a value as the JSON that is written for it
abbrev pub json_of : PlainValue → List ℕ
json_of v = compact_text (data_of v)

-- a world's line, its snapshot, and the JSON of its saved value
pub record TellsWorld (told : Told) (w : WorldRecord) : Type 0 where
  pub line : string_bytes told.line ≡ world_line w
  pub snapshot : told.snapshot ≡ world_spelling w
  pub saved : told.saved ≡ json_of w.saved
