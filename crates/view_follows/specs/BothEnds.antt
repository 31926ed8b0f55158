-- One link, told from both its ends.
use Rattle.std.specs.Prelude.{◌≡◌, ℕ, List, ◌∷◌, ◌++◌, map, Option}
use Rattle.byte_fields.specs.Fields.{whole}
use Rattle.tea_base.specs.declared.entry.Entry.{Entry}
use Rattle.tea_io.specs.declared.link.Heard.{Heard}
use Rattle.wire_frames.specs.Reading.{client_at, server_at}
use Rattle.wire_frames.specs.declared.frame.ClientFrame.{ClientFrame}
use Rattle.world_plain.specs.Messages.{PlainOutgoing}
use Rattle.world_plain.specs.World.{WorldRecord}
use Rattle.replica_plain.specs.Worlds.{Worlds}
use Rattle.connection.specs.TalkServed.{IsTalkServed, frames_of}
use Rattle.view_follows.specs.Links.{BeginsHonestly, IsServedBy, LinkTalk, first_bytes}

-- What came to the view is a first part of what the reflector sent, and what the reflector heard is a first part of what the view sent:
-- a cut may lose the end of each.
pub record IsLinkBetween (link : LinkTalk) (heard : List Heard) (sent : List (List ℕ)) : Type 0 where
  pub came : List (List ℕ)
  pub lost : List (List ℕ)
  pub went : sent ≡ came ++ lost
  pub read : link.heard ≡ map (whole server_at) came
  pub more : List (Option ClientFrame)
  pub unheard : List (Option ClientFrame)
  pub first : whole client_at (first_bytes link.sent) ∷ more ≡ frames_of heard ++ unheard

-- so what a log serves at the reflector's end it serves at the view's
abbrev pub LinksMeet : Type 0
LinksMeet = (m : Worlds WorldRecord PlainOutgoing) (log : List Entry) (link : LinkTalk) (heard : List Heard)
    (sent : List (List ℕ)) (talk : IsTalkServed log heard sent)
    → BeginsHonestly m log talk.frames → IsLinkBetween link heard sent → IsServedBy m log link
