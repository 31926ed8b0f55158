-- The chunk that is filled next: the one in which the place behind all bytes lies.
use Rattle.std.proofs.Common.{arith, ◌≡◌, ◌≤◌, ◌<◌, ◌+◌, ◌*◌, ◌/◌, ◌%◌, ◌++◌, ◌∙◌, ap, ℕ, List, length, get_or, set, vec_capacity}
use Rattle.std.specs.Prelude.{Vec}
use Rattle.std.specs.declared.alloc.Global.{Global}
use Rattle.event_region.specs.Chunks.{chunk_size, chunks_joined, AreFilled}
use Rattle.event_region.proofs.ChunkLaws.{chunk_used, chunk_room, fill_joined, fill_filled}

place_of : (len : ℕ) → len ≡ chunk_size * (len / chunk_size) + len % chunk_size
place_of len = omega arith

pub last_used : (len : ℕ) (chunks : List (Vec ℕ Global)) (was : Vec ℕ Global) → AreFilled len chunks → len / chunk_size < length chunks → was ≡ get_or chunks (len / chunk_size) was → length was.items ≡ len % chunk_size
last_used len chunks was filled below last =
    ap (λ (v : Vec ℕ Global). length v.items) last ∙ chunk_used len chunks (len / chunk_size) (len % chunk_size) was filled (place_of len) (omega arith) below

pub last_room : (len : ℕ) (chunks : List (Vec ℕ Global)) (was : Vec ℕ Global) → AreFilled len chunks → len / chunk_size < length chunks → was ≡ get_or chunks (len / chunk_size) was → chunk_size ≤ vec_capacity was
last_room len chunks was filled below last =
    let same : vec_capacity was ≡ vec_capacity (get_or chunks (len / chunk_size) was) = ap (λ (v : Vec ℕ Global). vec_capacity v) last in
    omega (arith, same, chunk_room len chunks (len / chunk_size) was filled below)

pub last_joined : (len : ℕ) (chunks : List (Vec ℕ Global)) (was grown : Vec ℕ Global) (more : List ℕ) → AreFilled len chunks → len / chunk_size < length chunks → was ≡ get_or chunks (len / chunk_size) was → grown.items ≡ was.items ++ more → chunks_joined (set chunks (len / chunk_size) grown) ≡ chunks_joined chunks ++ more
last_joined len chunks was grown more filled below last grows =
    fill_joined len chunks (len / chunk_size) (len % chunk_size) was grown more filled (place_of len) (omega arith) below (grows ∙ ap (λ (v : Vec ℕ Global). v.items ++ more) last)

pub last_filled : (len : ℕ) (chunks : List (Vec ℕ Global)) (was grown : Vec ℕ Global) (more : List ℕ) → AreFilled len chunks → len % chunk_size + length more ≤ chunk_size → len / chunk_size < length chunks → was ≡ get_or chunks (len / chunk_size) was → grown.items ≡ was.items ++ more → vec_capacity was ≤ vec_capacity grown → AreFilled (len + length more) (set chunks (len / chunk_size) grown)
last_filled len chunks was grown more filled within below last grows room =
    let roomy : chunk_size ≤ vec_capacity grown = omega (arith, last_room len chunks was filled below last, room) in
    fill_filled len chunks (len / chunk_size) (len % chunk_size) was grown more filled (place_of len) within below (grows ∙ ap (λ (v : Vec ℕ Global). v.items ++ more) last) roomy
