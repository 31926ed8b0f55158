-- Bytes in chunks of one size.
use Rattle.std.specs.Prelude.{ℕ, ◌-◌, ◌*◌, ◌≡◌, ◌≤◌, min, List, [], ◌∷◌, ◌++◌, length, Vec, vec_len, vec_capacity}
use Rattle.std.specs.declared.alloc.Global.{Global}

-- how many bytes a full chunk holds
abbrev pub chunk_size : ℕ
chunk_size = 65536

-- the bytes of all chunks, one after the other
abbrev pub chunks_joined : List (Vec ℕ Global) → List ℕ
chunks_joined [] = []
chunks_joined (chunk ∷ rest) = chunk.items ++ chunks_joined rest

-- they hold so many bytes, each chunk being filled before the next one, and each has memory until it is full
abbrev pub AreFilled : ℕ → List (Vec ℕ Global) → Type 0
AreFilled len [] = Unit {0}
AreFilled len (chunk ∷ rest) =
    (length chunk.items ≡ min chunk_size len) × (chunk_size ≤ vec_capacity chunk) × AreFilled (len - chunk_size) rest

-- no chunks are gone, and the bytes are the same
pub record KeepsChunks (before after : Vec (Vec ℕ Global) Global) : Type 0 where
  pub joined : chunks_joined after.items ≡ chunks_joined before.items
  pub filled : (len : ℕ) → len ≤ chunk_size * vec_len before → AreFilled len before.items → AreFilled len after.items
  pub more : vec_len before ≤ vec_len after
