-- That replicas which follow one log vote one digest on an entry.
use Rattle.std.specs.Prelude.{◌≡◌, ◌<◌, ℕ, ◌+◌, nat_le, if◌then◌else◌, List, [], take, slice_get, Some, None}
use Rattle.sha2.specs.Sha256.{sha256}
use Rattle.tea_base.specs.Legal.{IsLegal}
use Rattle.tea_base.specs.declared.entry.Entry.{Entry}
use Rattle.model_solved.specs.Founding.{Founding, IsFounding}
use Rattle.world_plain.specs.Messages.{PlainOutgoing}
use Rattle.world_plain.specs.World.{WorldRecord}
use Rattle.snapshot_codec.specs.Spelling.{world_spelling}
use Rattle.wire_frames.specs.declared.frame.ServerFrame.TheVariants.{Recv}
use Rattle.replica_plain.specs.Worlds.{Worlds, externals}
use Rattle.replica_plain.specs.PlainReplica.{PlainReplica}
use Rattle.replica_plain.specs.Taking.{taken}
use Rattle.replica_plain.specs.Following.{FollowsLog}
use Rattle.replica.specs.RealWorlds.{worlds}
use Rattle.view_shell.specs.Phases.{Phase, Receives, ToSee, Viewer, after_publish, give_vote, go_on, reads, vote_spelling, with_taken}

-- the world to which so many entries of a log lead from the first world
abbrev pub world_after : Worlds WorldRecord PlainOutgoing → List Entry → ℕ → WorldRecord
world_after m log count = externals m m.first (take count log)

-- a replica follows the log, and takes the log's next entry: the table finds no fault with it
pub record TakesNext (m : Worlds WorldRecord PlainOutgoing) (log : List Entry)
    (r : PlainReplica WorldRecord PlainOutgoing) (entry : Entry) : Type 0 where
  pub follows : FollowsLog m log r
  pub next : slice_get log r.seen ≡ Some entry
  pub taken : (taken m r (Recv entry)).fault ≡ None

-- the world that it has directly after the entry
abbrev pub world_behind : Worlds WorldRecord PlainOutgoing → PlainReplica WorldRecord PlainOutgoing → Entry
    → WorldRecord
world_behind m r entry = (taken m r (Recv entry)).replica.world

-- it is the world to which the entries up to this one lead
abbrev pub HasWorldOfLog : Type 0
HasWorldOfLog =
    (founding : Founding) (id : List ℕ) (log : List Entry) (r : PlainReplica WorldRecord PlainOutgoing) (entry : Entry)
    → IsFounding founding → IsLegal log
    → TakesNext (worlds founding id) log r entry
    → world_behind (worlds founding id) r entry ≡ world_after (worlds founding id) log (r.seen + 1)

-- two of them have one digest there
abbrev pub HaveOneDigest : Type 0
HaveOneDigest =
    (founding : Founding) (id : List ℕ) (log : List Entry) (r other : PlainReplica WorldRecord PlainOutgoing)
    (entry : Entry) → IsFounding founding → IsLegal log
    → TakesNext (worlds founding id) log r entry → TakesNext (worlds founding id) log other entry
    → sha256 (world_spelling (world_behind (worlds founding id) r entry))
    ≡ sha256 (world_spelling (world_behind (worlds founding id) other entry))

-- a view votes on an entry with the digest of this world, or listens on
abbrev pub votes_with : Viewer → ℕ → WorldRecord → Phase
votes_with v at w = give_vote (after_publish v (vote_spelling at w)) at

abbrev pub listens_on : Viewer → ℕ → Phase
listens_on v at = go_on v [] (Receives (ToSee at))

-- A view that listens for an entry, on which it votes, takes the next one of the log. If that is the entry, it votes with the world to
-- which the entries up to it lead, and else it listens on.
abbrev pub VotesWithWorldOfLog : Type 0
VotesWithWorldOfLog =
    (founding : Founding) (id : List ℕ) (log : List Entry) (v : Viewer) (entry : Entry) (at : ℕ) → IsFounding founding
    → IsLegal log → v.worlds ≡ worlds founding id
    → TakesNext v.worlds log v.replica entry → v.replica.seen < at
    → reads v (ToSee at) (Some (Recv entry))
    ≡ (let next = with_taken v (taken v.worlds v.replica (Recv entry))
    in if nat_le at (v.replica.seen + 1) then votes_with next at (world_after v.worlds log at) else listens_on next at)
