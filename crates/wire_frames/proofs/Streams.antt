-- Parts of what is served.
use Rattle.std.proofs.Common.{List, [], ◌∷◌, ◌++◌}
use Rattle.tea_base.specs.declared.entry.Entry.{Entry}
use Rattle.wire_frames.specs.declared.frame.ServerFrame.{ServerFrame}
use Rattle.wire_frames.specs.Served.{Place, place_after, place_after_all, Streams}

pub Streams-front : (log : List Entry) (place : Place) (front rest : List ServerFrame) → Streams log place (front ++ rest) → Streams log place front
Streams-front log place [] rest streams = tt
Streams-front log place (frame ∷ front) rest streams = (streams.0, Streams-front log (place_after place frame) front rest streams.1)

pub Streams-append : (log : List Entry) (place : Place) (front rest : List ServerFrame) → Streams log place front → Streams log (place_after_all place front) rest → Streams log place (front ++ rest)
Streams-append log place [] rest streams more = more
Streams-append log place (frame ∷ front) rest streams more = (streams.0, Streams-append log (place_after place frame) front rest streams.1 more)
