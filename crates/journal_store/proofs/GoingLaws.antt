-- A session that goes on from its journal is covered by what its keeper holds.
use Rattle.std.proofs.Common.{◌≡◌, inl, ℕ, List, Option, refl, sym, arith}
use Rattle.reflector_core.specs.PlainSession.{PlainSession, IsSoundSession}
use Rattle.reflector_core.specs.Keeping.{Covers, IsCovered}
use Rattle.reflector_core.specs.Stored.{session_of}
use Rattle.session_log.specs.Stored.{PlainStored}
use Rattle.session_journal.specs.Keeper.{IsKeptBy, IsWrittenBy}
use Rattle.session_keeper.specs.Keeping.{IsJournalOf, WritesJournalOf}
use Rattle.session_keeper.specs.declared.keeper.JournalKeeper.{JournalKeeper}

-- a session covers itself
covers_itself : (s : PlainSession) → IsSoundSession s → Covers s s
covers_itself s sound = record { log = refl; ahead = omega arith; within = omega arith; sound = sound }

pub covered_by : {S : Type 0} (told : S → Option (List ℕ)) (safe : S → ℕ) (keeper : JournalKeeper S) (stored : PlainStored) (s : PlainSession) → IsKeptBy told safe keeper.id.0 keeper.journal stored → s ≡ session_of stored → IsSoundSession s
    → IsCovered (IsJournalOf told safe keeper) s.kept s
covered_by told safe keeper stored s kept same sound = record {
  held = s;
  is_held = record { state = stored; is_kept = kept; same = sym same };
  covers = covers_itself s sound;
  kept = inl refl;
}

pub written_by : {S : Type 0} (told : S → Option (List ℕ)) (safe : S → ℕ) (keeper : JournalKeeper S) (stored : PlainStored) (s : PlainSession) → IsWrittenBy told safe keeper.id.0 keeper.journal stored → s ≡ session_of stored → IsSoundSession s
    → IsCovered (WritesJournalOf told safe keeper) s.kept s
written_by told safe keeper stored s written same sound = record {
  held = s;
  is_held = record { state = stored; is_written = written; same = sym same };
  covers = covers_itself s sound;
  kept = inl refl;
}
