-- What a talk is beside the log.
use Rattle.std.specs.Prelude.{◌≡◌, ℕ, ◌≤◌, List, [], ◌∷◌, map, Option}
use Rattle.std.specs.List.{AllByRecursion}
use Rattle.byte_fields.specs.Fields.{whole}
use Rattle.tea_base.specs.declared.entry.Entry.{Entry}
use Rattle.tea_io.specs.declared.link.Heard.{Heard}
use Rattle.tea_io.specs.declared.link.Heard.TheVariants.{Frame}
use Rattle.wire_frames.specs.Frames.{IsServerFrame}
use Rattle.wire_frames.specs.Reading.{client_at}
use Rattle.wire_frames.specs.Served.{Served}
use Rattle.wire_frames.specs.Spelling.{server_spelling}
use Rattle.wire_frames.specs.declared.frame.ClientFrame.{ClientFrame}
use Rattle.wire_frames.specs.declared.frame.ServerFrame.{ServerFrame}
use Rattle.wire_frames.specs.declared.frame.ServerFrame.TheVariants.{Tick}

-- the frames among what was heard; None is one that could not be read
abbrev pub frames_of : List Heard → List (Option ClientFrame)
frames_of [] = []
frames_of (Frame bytes ∷ rest) = whole client_at bytes ∷ frames_of rest
frames_of (other ∷ rest) = frames_of rest

-- the bytes that were sent are frames, which the log serves for the frames that were heard
pub record IsTalkServed (log : List Entry) (heard : List Heard) (sent : List (List ℕ)) : Type 0 where
  pub frames : List ServerFrame
  pub spelling : sent ≡ map server_spelling frames
  pub spelled : AllByRecursion IsServerFrame frames
  pub served : Served log (frames_of heard) frames

-- each TICK among the frames has at most this time
abbrev pub TicksWithin : ℕ → List ServerFrame → Type 0
TicksWithin horizon [] = Unit {0}
TicksWithin horizon (Tick time ∷ rest) = (time ≤ horizon) × TicksWithin horizon rest
TicksWithin horizon (frame ∷ rest) = TicksWithin horizon rest

-- the bytes that were sent are frames, of which each TICK has at most this time
pub record IsToldWithin (horizon : ℕ) (sent : List (List ℕ)) : Type 0 where
  pub frames : List ServerFrame
  pub spelling : sent ≡ map server_spelling frames
  pub spelled : AllByRecursion IsServerFrame frames
  pub ticks : TicksWithin horizon frames
