-- Chunks that are filled one after the other.
use Rattle.std.proofs.Common.{ℕ, ◌+◌, ◌-◌, ◌*◌, ◌≡◌, ◌≤◌, ◌<◌, List, [], ◌∷◌, ◌++◌, zero, suc, length-append, append_assoc, append-nil, length, get_or, set, take, drop, sym, ap, ◌∙◌, refl, arith, length-drop, vec_capacity}
use Rattle.std.specs.Prelude.{Vec}
use Rattle.std.specs.List.{slice_range}
use Rattle.std.specs.declared.alloc.Global.{Global}
use Rattle.std.proofs.lemmas.List.{nil_from_length, take-append-le, drop-append-le, drop-drop, drop_at}
use Rattle.event_region.specs.Chunks.{chunk_size, chunks_joined, AreFilled, KeepsChunks}

joined_none : (chunks : List (Vec ℕ Global)) → AreFilled 0 chunks → chunks_joined chunks ≡ []
joined_none [] filled = refl
joined_none (chunk ∷ rest) filled =
    let none : chunk.items ≡ [] = nil_from_length chunk.items filled.0 in
    rw (none, joined_none rest filled.2) refl

-- they hold no more than they may
pub joined_bound : (len : ℕ) (chunks : List (Vec ℕ Global)) → AreFilled len chunks → length (chunks_joined chunks) ≤ chunk_size * length chunks
joined_bound len [] filled = omega arith
joined_bound len (chunk ∷ rest) filled =
    let first = filled.0 in
    omega (arith, length-append chunk.items (chunks_joined rest), joined_bound (len - chunk_size) rest filled.2)

-- ---- one chunk more

filled_more : (len : ℕ) (chunks : List (Vec ℕ Global)) (chunk : Vec ℕ Global) → AreFilled len chunks → len ≤ chunk_size * length chunks → chunk.items ≡ [] → chunk_size ≤ vec_capacity chunk → AreFilled len (chunks ++ chunk ∷ [])
filled_more len [] chunk filled bound none room = (omega (arith, ap length none), room, tt)
filled_more len (first ∷ rest) chunk filled bound none room = (filled.0, filled.1, filled_more (len - chunk_size) rest chunk filled.2 (omega arith) none room)

joined_more : (chunks : List (Vec ℕ Global)) (chunk : Vec ℕ Global) → chunk.items ≡ [] → chunks_joined (chunks ++ chunk ∷ []) ≡ chunks_joined chunks
joined_more [] chunk none = rw none refl
joined_more (first ∷ rest) chunk none = ap (λ (bytes : List ℕ). first.items ++ bytes) (joined_more rest chunk none)

pub kept_more : (before after : Vec (Vec ℕ Global) Global) (chunk : Vec ℕ Global) → after.items ≡ before.items ++ chunk ∷ [] → chunk.items ≡ [] → chunk_size ≤ vec_capacity chunk → KeepsChunks before after
kept_more before after chunk push none room =
    let counts = before.ok.0 in
    let counts_after = after.ok.0 in
    record {
      joined = ap chunks_joined push ∙ joined_more before.items chunk none;
      filled = λ len bound filled. rw push (filled_more len before.items chunk filled (omega (arith, counts)) none room);
      more = omega (arith, counts, counts_after, ap length push, length-append before.items (chunk ∷ []));
    }

-- ---- more bytes in the chunk that is being filled

-- the chunk with a number, where so many bytes of it are used
pub chunk_used : (len : ℕ) (chunks : List (Vec ℕ Global)) (k used : ℕ) (none : Vec ℕ Global) → AreFilled len chunks → len ≡ chunk_size * k + used → used ≤ chunk_size → k < length chunks → length (get_or chunks k none).items ≡ used
chunk_used len [] k used none filled is small below = absurd (omega arith)
chunk_used len (chunk ∷ rest) zero used none filled is small below = let first = filled.0 in omega arith
chunk_used len (chunk ∷ rest) (suc k) used none filled is small below = chunk_used (len - chunk_size) rest k used none filled.2 (omega arith) small (omega arith)

pub chunk_room : (len : ℕ) (chunks : List (Vec ℕ Global)) (k : ℕ) (none : Vec ℕ Global) → AreFilled len chunks → k < length chunks → chunk_size ≤ vec_capacity (get_or chunks k none)
chunk_room len [] k none filled below = absurd (omega arith)
chunk_room len (chunk ∷ rest) zero none filled below = filled.1
chunk_room len (chunk ∷ rest) (suc k) none filled below = chunk_room (len - chunk_size) rest k none filled.2 (omega arith)

pub fill_joined : (len : ℕ) (chunks : List (Vec ℕ Global)) (k used : ℕ) (none grown : Vec ℕ Global) (more : List ℕ) → AreFilled len chunks → len ≡ chunk_size * k + used → used ≤ chunk_size → k < length chunks → grown.items ≡ (get_or chunks k none).items ++ more → chunks_joined (set chunks k grown) ≡ chunks_joined chunks ++ more
fill_joined len [] k used none grown more filled is small below grows = absurd (omega arith)
fill_joined len (chunk ∷ rest) zero used none grown more filled is small below grows =
    let past : len - chunk_size ≡ 0 = omega arith in
    let empty : chunks_joined rest ≡ [] = joined_none rest (rw past at filled.2) in
    rw (empty, append-nil grown.items, append-nil chunk.items) grows
fill_joined len (chunk ∷ rest) (suc k) used none grown more filled is small below grows =
    ap (λ (bytes : List ℕ). chunk.items ++ bytes) (fill_joined (len - chunk_size) rest k used none grown more filled.2 (omega arith) small (omega arith) grows) ∙ sym (append_assoc chunk.items (chunks_joined rest) more)

pub fill_filled : (len : ℕ) (chunks : List (Vec ℕ Global)) (k used : ℕ) (none grown : Vec ℕ Global) (more : List ℕ) → AreFilled len chunks → len ≡ chunk_size * k + used → used + length more ≤ chunk_size → k < length chunks → grown.items ≡ (get_or chunks k none).items ++ more → chunk_size ≤ vec_capacity grown → AreFilled (len + length more) (set chunks k grown)
fill_filled len [] k used none grown more filled is small below grows room = absurd (omega arith)
fill_filled len (chunk ∷ rest) zero used none grown more filled is small below grows room =
    let first = filled.0 in
    let past : len - chunk_size ≡ len + length more - chunk_size = omega arith in
    (omega (arith, ap length grows, length-append chunk.items more), room, rw past at filled.2)
fill_filled len (chunk ∷ rest) (suc k) used none grown more filled is small below grows room =
    let first = filled.0 in
    let past : len + length more - chunk_size ≡ (len - chunk_size) + length more = omega arith in
    (omega arith, filled.1, rw past (fill_filled (len - chunk_size) rest k used none grown more filled.2 (omega arith) small (omega arith) grows room))

-- ---- reading

take-drop-append : (xs ys : List ℕ) (start n : ℕ) → start + n ≤ length xs → take n (drop start (xs ++ ys)) ≡ take n (drop start xs)
take-drop-append xs ys start n within =
    let starts : start ≤ length xs = omega arith in
    let ends : n ≤ length (drop start xs) = omega (arith, length-drop start xs) in
    rw (drop-append-le start xs ys starts, take-append-le n (drop start xs) ys ends) refl

drop-behind : (xs ys : List ℕ) (start behind : ℕ) → start ≡ length xs + behind → drop start (xs ++ ys) ≡ drop behind ys
drop-behind xs ys start behind is = ap (λ (n : ℕ). drop n (xs ++ ys)) is ∙ sym (drop-drop behind (length xs) (xs ++ ys)) ∙ ap (drop behind) (drop_at xs ys (length xs) refl)

-- what stands in the chunk with a number, from a place in it on
pub piece_there : (len : ℕ) (chunks : List (Vec ℕ Global)) (k offset start n : ℕ) (none : Vec ℕ Global) → AreFilled len chunks → start ≡ chunk_size * k + offset → offset + n ≤ chunk_size → start + n ≤ len → k < length chunks → offset + n ≤ length (get_or chunks k none).items
piece_there len [] k offset start n none filled is small within below = absurd (omega arith)
piece_there len (chunk ∷ rest) zero offset start n none filled is small within below = let first = filled.0 in omega arith
piece_there len (chunk ∷ rest) (suc k) offset start n none filled is small within below = piece_there (len - chunk_size) rest k offset (start - chunk_size) n none filled.2 (omega arith) small (omega arith) (omega arith)

pub piece_is : (len : ℕ) (chunks : List (Vec ℕ Global)) (k offset start n : ℕ) (none : Vec ℕ Global) → AreFilled len chunks → start ≡ chunk_size * k + offset → offset + n ≤ chunk_size → start + n ≤ len → k < length chunks → take n (drop start (chunks_joined chunks)) ≡ take n (drop offset (get_or chunks k none).items)
piece_is len [] k offset start n none filled is small within below = absurd (omega arith)
piece_is len (chunk ∷ rest) zero offset start n none filled is small within below =
    let first = filled.0 in
    let same : start ≡ offset = omega arith in
    rw same (take-drop-append chunk.items (chunks_joined rest) offset n (omega arith))
piece_is len (chunk ∷ rest) (suc k) offset start n none filled is small within below =
    let first = filled.0 in
    let behind : start ≡ length chunk.items + (start - chunk_size) = omega arith in
    ap (take n) (drop-behind chunk.items (chunks_joined rest) start (start - chunk_size) behind) ∙ piece_is (len - chunk_size) rest k offset (start - chunk_size) n none filled.2 (omega arith) small (omega arith) (omega arith)

-- what stands at a place stays where bytes are appended
pub place_kept : (bytes more : List ℕ) (start len : ℕ) → start + len ≤ length bytes → slice_range (bytes ++ more) start (start + len) ≡ slice_range bytes start (start + len)
place_kept bytes more start len within =
    let one : start + len - start ≡ len = omega arith in
    rw one (take-drop-append bytes more start len within)
