-- What contracts see of a session: the session itself, and what its log has room for.
use Rattle.std.specs.Prelude.{ℕ, ◌+◌, ◌≤◌, ◌<◌, length}
use Rattle.reflector_core.specs.PlainSession.{PlainSession}
use Rattle.reflector_core.specs.declared.request.Request.{Request}
use Rattle.reflector_core.specs.declared.request.Request.TheVariants.{Join, Send, Tick, Leave, Offer, Pull}

pub record SessionState : Type 0 where
  pub plain : PlainSession
  pub ready_entries : ℕ
  pub ready_bytes : ℕ

-- the room is enough for the request to need no memory
abbrev pub IsPreparedFor : SessionState → Request → Type 0
IsPreparedFor s (Send view joined number payload now) =
    (0 < s.ready_entries) × (length payload ≤ s.ready_bytes)
IsPreparedFor s (Leave view joined now) = 0 < s.ready_entries
IsPreparedFor s (Tick now) = Unit {0}
IsPreparedFor s (Join view now want) = ⊥
IsPreparedFor s (Offer view joined time snapshot) = ⊥
IsPreparedFor s (Pull after limit) = ⊥

-- how many entries of the room a request uses at most
abbrev pub entries_used : Request → ℕ
entries_used (Send view joined number payload now) = 1
entries_used (Leave view joined now) = 1
entries_used (Tick now) = 0
entries_used (Join view now want) = 1
entries_used (Offer view joined time snapshot) = 0
entries_used (Pull after limit) = 0

-- how many payload bytes of it
abbrev pub bytes_used : Request → ℕ
bytes_used (Send view joined number payload now) = length payload
bytes_used (Leave view joined now) = 0
bytes_used (Tick now) = 0
bytes_used (Join view now want) = 0
bytes_used (Offer view joined time snapshot) = 0
bytes_used (Pull after limit) = 0

-- at most so many entries and payload bytes of the room are used up
pub record UsesAtMost (old new : SessionState) (entries bytes : ℕ) : Type 0 where
  pub of_entries : old.ready_entries ≤ new.ready_entries + entries
  pub of_bytes : old.ready_bytes ≤ new.ready_bytes + bytes
