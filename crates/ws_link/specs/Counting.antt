-- What a link over a WebSocket counts.
use Rattle.tea_io.specs.Links.{Counts}
use Rattle.ws_link.specs.declared.counters.Counters.{Counters}

-- the counts that it keeps, as those of any link
abbrev pub counts_of : Counters → Counts
counts_of kept = record { faults = kept.faults; quiets = kept.quiets; ends = kept.ends }
