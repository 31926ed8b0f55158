-- The links of a view's steps, and what a log serves on one.
use Rattle.std.specs.Prelude.{◌≡◌, ℕ, List, [], ◌∷◌, map, Option, Some}
use Rattle.byte_fields.specs.Fields.{whole}
use Rattle.tea_base.specs.declared.entry.Entry.{Entry}
use Rattle.tea_io.specs.declared.link.Heard.{Heard}
use Rattle.tea_io.specs.declared.link.Heard.TheVariants as said
use Rattle.wire_frames.specs.Reading.{client_at, server_at}
use Rattle.wire_frames.specs.Served.{Served}
use Rattle.wire_frames.specs.declared.frame.ClientFrame.{ClientFrame}
use Rattle.wire_frames.specs.declared.frame.ServerFrame.{ServerFrame}
use Rattle.wire_frames.specs.declared.frame.ServerFrame.TheVariants.{Sync}
use Rattle.replica_plain.specs.Worlds.{Worlds}
use Rattle.replica_plain.specs.Following.{IsHonestBase}
use Rattle.run_steps.specs.Steps.{Step, Connects, Returns, Hears, Sends}

-- a link of a view: the bytes that were sent on it, and what was heard on it, read as frames
pub record LinkTalk : Type 0 where
  pub sent : List (List ℕ)
  pub heard : List (Option ServerFrame)

-- what was read, before what is heard behind it
abbrev pub heard_then : Heard → List (Option ServerFrame) → List (Option ServerFrame)
heard_then (said.Frame bytes) more = whole server_at bytes ∷ more
heard_then said.Quiet more = more
heard_then said.End more = more
heard_then said.Failed more = more
heard_then said.WantOfMemory more = more

-- what is heard on the link that is in use, until it is given back
abbrev pub heard_in : List Step → List (Option ServerFrame)
heard_in [] = []
heard_in (Hears what ∷ rest) = heard_then what (heard_in rest)
heard_in (Returns ∷ rest) = []
heard_in (step ∷ rest) = heard_in rest

-- what is sent on it
abbrev pub sent_in : List Step → List (List ℕ)
sent_in [] = []
sent_in (Sends bytes ∷ rest) = bytes ∷ sent_in rest
sent_in (Returns ∷ rest) = []
sent_in (Connects address ∷ rest) = []
sent_in (step ∷ rest) = sent_in rest

-- the bytes that were sent first
abbrev pub first_bytes : List (List ℕ) → List ℕ
first_bytes [] = []
first_bytes (bytes ∷ rest) = bytes

-- the links that steps make, in their order
abbrev pub links_in : List Step → List LinkTalk
links_in [] = []
links_in (Connects address ∷ rest) = record { sent = sent_in rest; heard = heard_in rest } ∷ links_in rest
links_in (step ∷ rest) = links_in rest

-- the base of a Sync, if it has one, is honest
abbrev pub BeginsHonestly : {W O : Type 0} → Worlds W O → List Entry → List ServerFrame → Type 0
BeginsHonestly m log (Sync joined last from base ∷ rest) = IsHonestBase m log base
BeginsHonestly m log frames = Unit {0}

-- What was heard on a link are frames, and a log serves them to a connection that gave what was sent first, and some more.
pub record IsServedBy {W O : Type 0} (m : Worlds W O) (log : List Entry) (link : LinkTalk) : Type 0 where
  pub given : List (Option ClientFrame)
  pub frames : List ServerFrame
  pub heard : map Some frames ≡ link.heard
  pub served : Served log (whole client_at (first_bytes link.sent) ∷ given) frames
  pub honest : BeginsHonestly m log frames
