use Rattle.std.proofs.Common.{arith, rules, ◌<◌, ◌/◌, length, vec_len}
use Rattle.event_region.specs.Chunks.{chunk_size}
use Rattle.event_region.proofs.LastChunk.{last_used, last_room, last_joined, last_filled}
use Rattle.event_region.proofs.chunks.fill.Goals as goal

pub fill_chunk-requires : goal.fill_chunk-requires
fill_chunk-requires c =
    let chunks = c.args.chunks.now in
    let was = c.index_mut-chunk.result.now in
    let there : c.args.len / chunk_size < vec_len chunks = search rules in
    let below : c.args.len / chunk_size < length chunks.items = omega (arith, chunks.ok.0) in
    let last = c.index_mut-chunk.ensures.value in
    omega (arith, was.ok.0, c.requires.within, last_used c.args.len chunks.items was c.requires.filled below last, last_room c.args.len chunks.items was c.requires.filled below last)

pub returns-clause-joined : goal.returns-clause-joined
returns-clause-joined c =
    let chunks = c.args.chunks.now in
    let there : c.args.len / chunk_size < vec_len chunks = search rules in
    last_joined c.args.len chunks.items c.index_mut-chunk.result.now c.fill_chunk.new.chunk c.args.bytes.now c.requires.filled (omega (arith, chunks.ok.0)) c.index_mut-chunk.ensures.value c.fill_chunk.ensures.items

pub returns-clause-filled : goal.returns-clause-filled
returns-clause-filled c =
    let chunks = c.args.chunks.now in
    let there : c.args.len / chunk_size < vec_len chunks = search rules in
    last_filled c.args.len chunks.items c.index_mut-chunk.result.now c.fill_chunk.new.chunk c.args.bytes.now c.requires.filled c.requires.within (omega (arith, chunks.ok.0)) c.index_mut-chunk.ensures.value c.fill_chunk.ensures.items c.fill_chunk.ensures.room
