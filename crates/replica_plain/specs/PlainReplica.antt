-- A view's replica of the world.
use Rattle.std.specs.Prelude.{ℕ, ◌+◌, ◌≤◌, Bool, true, false, List, [], length, Option, None}
use Rattle.replica_plain.specs.declared.how.How.{How}
use Rattle.replica_plain.specs.Worlds.{Worlds}

-- view: of which view. world: what its models hold, and the first world where it is broken. out: what its models published and was
-- not taken out. broken: memory was wanted while the world went on, so what it holds is not known. seen: how many entries of the log
-- it has. outbox: the payloads of its events that are not acknowledged, in order. acknowledged: how many are. given: the greatest
-- number of an event that was given since the last Sync, or the number acknowledged. awaited: how it joins, while a Sync is
-- awaited. synced: a Sync was taken since the last join. base: the time of the base from which its world was made.
pub record PlainReplica (W O : Type 0) : Type 0 where
  pub view : ℕ
  pub world : W
  pub out : List O
  pub broken : Bool
  pub seen : ℕ
  pub outbox : List (List ℕ)
  pub acknowledged : ℕ
  pub given : ℕ
  pub awaited : Option How
  pub synced : Bool
  pub base : Option ℕ

-- how many events it published
abbrev pub published_count : {W O : Type 0} → PlainReplica W O → ℕ
published_count r = r.acknowledged + length r.outbox

-- the most events that a view publishes
abbrev pub most_published : ℕ
most_published = 1048576

-- a view that has the first world, has seen nothing and has not joined
abbrev pub new_replica : {W O : Type 0} → Worlds W O → ℕ → PlainReplica W O
new_replica m view =
    record {
      view = view;
      world = m.first;
      out = m.first_out;
      broken = false;
      seen = 0;
      outbox = [];
      acknowledged = 0;
      given = 0;
      awaited = None;
      synced = false;
      base = None;
    }

-- memory was wanted: what the world holds is not known, and nothing that its models published is left
abbrev pub breaks : {W O : Type 0} → Worlds W O → PlainReplica W O → PlainReplica W O
breaks m r = record r { world = m.first; out = []; broken = true }

-- how the numbers of a replica stand
pub record AreCounted {W O : Type 0} (r : PlainReplica W O) : Type 0 where
  pub least : r.acknowledged ≤ r.given
  pub few : r.given ≤ published_count r
  pub most : published_count r ≤ most_published
