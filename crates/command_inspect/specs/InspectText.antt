-- What queries print of a recorded session.
use Rattle.std.specs.Prelude.{ℕ, List, flat_map}
use Rattle.tea_base.specs.declared.entry.Entry.{Entry}
use Rattle.model_tree.specs.Tree.{ProgramTree}
use Rattle.model_solved.specs.Founding.{Founding}
use Rattle.world_plain.specs.World.{WorldRecord}
use Rattle.world.specs.Worlds.{replay}
use Rattle.world_lines.specs.WorldText.{full_text, world_line}
use Rattle.command_inspect.specs.declared.query.Query.{Query}
use Rattle.command_inspect.specs.declared.query.Query.TheVariants.{At, Full}
use Rattle.command_inspect.specs.Queries.{time_of}

-- what a query prints of the world of its time: the line of that world, or where all is asked for that world in full
abbrev pub world_text : ProgramTree → Query → WorldRecord → List ℕ
world_text program (At time) w = world_line w
world_text program (Full time) w = full_text program w

-- that world is the replay of the log to the time
abbrev pub query_text : Founding → List ℕ → List Entry → Query → List ℕ
query_text founding id entries query = world_text founding.tree query (replay founding id entries (time_of query)).world

-- the texts of queries, in their order
abbrev pub inspect_text : Founding → List ℕ → List Entry → List Query → List ℕ
inspect_text founding id entries queries = flat_map (query_text founding id entries) queries
