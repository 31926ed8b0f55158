-- How often links have ended in each way.
use Rattle.std.specs.Prelude.{ℕ, List, [], ◌∷◌, Option, Some, None}
use Rattle.tea_io.specs.Nets.{sum_of}
use Rattle.tea_io.specs.Told.{count_up}
use Rattle.connection.specs.declared.ending.Ended.{Ended}
use Rattle.connection.specs.declared.ending.Ended.TheVariants as ended
use Rattle.host_server.specs.declared.hosting.HostEnd.{HostEnd}
use Rattle.host_posts.specs.declared.counting.EndCounts.{EndCounts}
use Rattle.host_posts.specs.declared.posting.PostOutcome.{PostOutcome}

-- none has ended
abbrev pub no_ends : EndCounts
no_ends = record {
  silent = 0;
  left = 0;
  link_end = 0;
  link_fault = 0;
  idle = 0;
  stale = 0;
  refused = 0;
  want_of_memory = 0;
  unkept = 0;
}

-- one more has ended so
abbrev pub with_way : Ended → EndCounts → EndCounts
with_way ended.Left counts = record counts { left = count_up counts.left }
with_way ended.LinkEnd counts = record counts { link_end = count_up counts.link_end }
with_way ended.LinkFault counts = record counts { link_fault = count_up counts.link_fault }
with_way (ended.Idle quiets) counts = record counts { idle = count_up counts.idle }
with_way (ended.Stale current) counts = record counts { stale = count_up counts.stale }
with_way (ended.Refused code) counts = record counts { refused = count_up counts.refused }
with_way ended.WantOfMemory counts = record counts { want_of_memory = count_up counts.want_of_memory }
with_way ended.Unkept counts = record counts { unkept = count_up counts.unkept }

-- one that gave no frame is counted as silent too
abbrev pub with_session : Option ℕ → EndCounts → EndCounts
with_session None counts = record counts { silent = count_up counts.silent }
with_session (Some place) counts = counts

abbrev pub with_end : EndCounts → HostEnd → EndCounts
with_end counts end = with_way end.ended (with_session end.session counts)

-- and so of all these, in order
abbrev pub with_ends : EndCounts → List HostEnd → EndCounts
with_ends counts [] = counts
with_ends counts (end ∷ ends) = with_ends (with_end counts end) ends

-- the counts of these ends
abbrev pub counts_of : List HostEnd → EndCounts
counts_of ends = with_ends no_ends ends

-- the sums of two counts, each of which stays at the last value of a `u64`
abbrev pub both_counts : EndCounts → EndCounts → EndCounts
both_counts a b = record {
  silent = sum_of a.silent b.silent;
  left = sum_of a.left b.left;
  link_end = sum_of a.link_end b.link_end;
  link_fault = sum_of a.link_fault b.link_fault;
  idle = sum_of a.idle b.idle;
  stale = sum_of a.stale b.stale;
  refused = sum_of a.refused b.refused;
  want_of_memory = sum_of a.want_of_memory b.want_of_memory;
  unkept = sum_of a.unkept b.unkept;
}

-- those of all posts behind these
abbrev pub with_posts : EndCounts → List PostOutcome → EndCounts
with_posts counts [] = counts
with_posts counts (post ∷ posts) = with_posts (both_counts counts post.counts) posts
