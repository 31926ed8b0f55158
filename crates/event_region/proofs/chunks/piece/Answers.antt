use Rattle.std.proofs.Common.{arith, ◌≡◌, ◌<◌, ◌+◌, ◌-◌, ◌*◌, ◌/◌, ◌%◌, ◌∙◌, ap, sym, ℕ, length, get_or, take, drop}
use Rattle.std.specs.Prelude.{Vec}
use Rattle.std.specs.declared.alloc.Global.{Global}
use Rattle.event_region.specs.Chunks.{chunk_size, chunks_joined}
use Rattle.event_region.proofs.ChunkLaws.{joined_bound, piece_there, piece_is}
use Rattle.event_region.proofs.chunks.piece.Goals as goal

pub bounds-chunks-start : goal.bounds-chunks-start
bounds-chunks-start c =
    omega (arith, joined_bound (length (chunks_joined c.args.chunks.now)) c.args.chunks.now c.requires.filled)

pub slice_bounds-result-end-2 : goal.slice_bounds-result-end-2
slice_bounds-result-end-2 c =
    let chunks = c.args.chunks.now in
    let k = c.args.start / chunk_size in
    let offset = c.args.start % chunk_size in
    let chunk = c.index-chunks-start.result in
    let below : k < length chunks = omega (arith, joined_bound (length (chunks_joined chunks)) chunks c.requires.filled) in
    let is : c.args.start ≡ chunk_size * k + offset = omega arith in
    let there = piece_there (length (chunks_joined chunks)) chunks k offset c.args.start c.args.len chunk c.requires.filled is c.requires.within c.requires.there below in
    let same : length c.deref.result.now ≡ length (get_or chunks k chunk).items = ap length c.deref.ensures.value ∙ ap (λ (v : Vec ℕ Global). length v.items) c.index-chunks-start.is in
    omega arith

pub returns : goal.returns
returns c =
    let chunks = c.args.chunks.now in
    let k = c.args.start / chunk_size in
    let offset = c.args.start % chunk_size in
    let chunk = c.index-chunks-start.result in
    let below : k < length chunks = omega (arith, joined_bound (length (chunks_joined chunks)) chunks c.requires.filled) in
    let is : c.args.start ≡ chunk_size * k + offset = omega arith in
    let read = piece_is (length (chunks_joined chunks)) chunks k offset c.args.start c.args.len chunk c.requires.filled is c.requires.within c.requires.there below in
    let part : offset + c.args.len - offset ≡ c.args.len = omega arith in
    let whole : c.args.start + c.args.len - c.args.start ≡ c.args.len = omega arith in
    rw (part, whole, c.deref.ensures.value) (ap (λ (v : Vec ℕ Global). take c.args.len (drop offset v.items)) c.index-chunks-start.is ∙ sym read)
