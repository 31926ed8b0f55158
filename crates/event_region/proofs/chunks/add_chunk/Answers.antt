use Rattle.event_region.proofs.ChunkLaws.{kept_more}
use Rattle.event_region.proofs.chunks.add_chunk.Goals as goal

pub returns-clause-kept : goal.returns-clause-kept
returns-clause-kept c =
    kept_more c.args.chunks.now c.push.new.self c.in_ok-chunk.chunk c.in_ok-push.ensures.items c.in_ok-chunk.ensures.items c.in_ok-chunk.ensures.capacity
