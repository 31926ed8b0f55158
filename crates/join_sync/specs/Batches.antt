-- What a connection is sent of a batch, and where its cursor stands then.
use Rattle.std.specs.Prelude.{◌≡◌, ℕ, ◌+◌, nat_lt, if◌then◌else◌, List, [], ◌∷◌, ◌++◌, map, length, Option, Some, None, unwrap_or}
use Rattle.tea_base.specs.declared.entry.Entry.{Entry}
use Rattle.reflector_core.specs.declared.request.Reply.{Reply}
use Rattle.reflector_core.specs.declared.request.Reply.TheVariants as reply
use Rattle.wire_frames.specs.declared.frame.ServerFrame.{ServerFrame}
use Rattle.wire_frames.specs.declared.frame.ServerFrame.TheVariants.{Recv, Tick}
use Rattle.join_sync.specs.declared.cursor.Cursor.{Cursor}

-- a Pull of a connection asks for so many entries at most
abbrev pub most_pulled : ℕ
most_pulled = 256

-- the tick of a batch, where it is above the last one that was sent
abbrev pub newer_tick : ℕ → Option ℕ → Option ℕ
newer_tick last None = None
newer_tick last (Some time) = if nat_lt last time then Some time else None

abbrev pub tick_frames : Option ℕ → List ServerFrame
tick_frames None = []
tick_frames (Some time) = Tick time ∷ []

abbrev pub entry_frames : List Entry → List ServerFrame
entry_frames entries = map (λ entry. Recv entry) entries

-- the entries in order, and behind them at most one tick
abbrev pub next_frames : Cursor → Reply → List ServerFrame
next_frames cursor (reply.Batch entries tick) = entry_frames entries ++ tick_frames (newer_tick cursor.last_tick tick)
next_frames cursor other = []

-- the cursor once they are sent
abbrev pub next_cursor : Cursor → Reply → Cursor
next_cursor cursor (reply.Batch entries tick) =
    record cursor {
      after = cursor.after + length entries;
      last_tick = unwrap_or (newer_tick cursor.last_tick tick) cursor.last_tick;
    }
next_cursor cursor other = cursor

-- the entries have the seqs behind this one, in order
abbrev pub ComeAfter : ℕ → List Entry → Type 0
ComeAfter seq [] = Unit {0}
ComeAfter seq (entry ∷ rest) = (entry.seq ≡ seq + 1) × ComeAfter (seq + 1) rest

-- the reply is a batch of such entries
abbrev pub IsBatchAfter : ℕ → Reply → Type 0
IsBatchAfter seq (reply.Batch entries tick) = ComeAfter seq entries
IsBatchAfter seq other = ⊥
