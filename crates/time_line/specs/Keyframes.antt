-- A session as it was recorded, the worlds that its log leads to entry by entry, and which of them are kept.
use Rattle.std.specs.Prelude.{◌≡◌, ◌≤◌, ℕ, ◌+◌, ◌*◌, ◌/◌, List, [], ◌∷◌, length, take, false}
use Rattle.std.specs.List.{fold}
use Rattle.tea_base.specs.declared.entry.Entry.{Entry}
use Rattle.tea_base.specs.Legal.{IsLegal}
use Rattle.model_tree.specs.Tree.{ProgramTree}
use Rattle.model_solved.specs.Founding.{CheckedView, checked_tree, founding_of, IsFounding}
use Rattle.world_plain.specs.World.{WorldRecord}
use Rattle.world.specs.View.{WorldView}
use Rattle.world.specs.Worlds.{external, first_scene, replay, take_up}

-- what contracts see of a time line: its program, the bytes of its session's id, the entries of its log, and after how many
-- entries each a world is kept
pub record LineView : Type 0 where
  pub program : CheckedView
  pub id : List ℕ
  pub entries : List Entry
  pub every : ℕ

-- the world to which entries lead, one after the other; it is taken up anew before each
abbrev pub after_entries : ProgramTree → WorldRecord → List Entry → WorldRecord
after_entries program w entries =
    fold (λ (v : WorldRecord) (e : Entry). (external program e (take_up v)).world) w entries

-- the world after the first n entries of the log
abbrev pub world_after : LineView → ℕ → WorldRecord
world_after line n = after_entries (checked_tree line.program) (first_scene (founding_of line.program) line.id).world
    (take n line.entries)

-- ---- keyframes

-- keyframe k: the world after the first k times so many entries
abbrev pub keyframe : LineView → ℕ → WorldRecord
keyframe line k = world_after line (k * line.every)

-- the number of the greatest keyframe; the least is 0
abbrev pub frames_of : LineView → ℕ
frames_of line = length line.entries / line.every

-- it is at most this
abbrev pub most_frames : ℕ
most_frames = 128

-- what is so of each time line: a session can be founded from its program, its log is legal, and it keeps not too many worlds
pub record IsSoundLine (line : LineView) : Type 0 where
  pub founded : IsFounding (founding_of line.program)
  pub legal : IsLegal line.entries
  pub positive : 1 ≤ line.every
  pub few : frames_of line ≤ most_frames

-- the items are those of the numbers from this one on
abbrev pub AreFrom : (ℕ → WorldRecord) → ℕ → List WorldRecord → Type 0
AreFrom of k [] = Unit {0}
AreFrom of k (w ∷ ws) = (w ≡ of k) × AreFrom of (k + 1) ws

-- a time line that keeps these worlds keeps all its keyframes
pub record KeepsKeyframes (line : LineView) (frames : List WorldRecord) : Type 0 where
  pub sound : IsSoundLine line
  pub all : length frames ≡ frames_of line + 1
  pub each : AreFrom (keyframe line) 0 frames

-- ---- moments

-- the world of a time, on which nothing was published yet: the replay of the log to that time
abbrev pub moment : LineView → ℕ → WorldView
moment line t = record {
  program = line.program;
  scene = take_up (replay (founding_of line.program) line.id line.entries t).world;
  broken = false;
}
