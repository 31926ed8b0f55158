-- What a store in memory holds, and what its calls answer and leave.
use Rattle.std.specs.Prelude.{ℕ, min, Bool, ◌==◌, not, ◌&&◌, List, [], ◌++◌, length, take, Result, Ok, Err, if◌then◌else◌}
use Rattle.tea_io.specs.Told.{count_up}
use Rattle.tea_io.specs.Calls.{fails_at}
use Rattle.store_io.specs.declared.store.StoreFault.{StoreFault}
use Rattle.store_io.specs.declared.store.StoreFault.TheVariants.{Failed, WantOfMemory}

-- the bytes, how many of the first are safe, which calls fail by their numbers, how much of a failing call is done, the
-- number of the next call, and how many were not done
pub record MemStoreState : Type 0 where
  pub bytes : List ℕ
  pub safe : ℕ
  pub failing : List ℕ
  pub torn : ℕ
  pub next_call : ℕ
  pub faults : ℕ

-- a store of bytes that are safe
abbrev pub store_of : List ℕ → List ℕ → ℕ → MemStoreState
store_of bytes failing torn =
    record { bytes = bytes; safe = length bytes; failing = failing; torn = torn; next_call = 1; faults = 0 }

-- a call more was made
abbrev pub called : MemStoreState → MemStoreState
called s = record s { next_call = count_up s.next_call }

-- a call more was not done
abbrev pub with_fault : MemStoreState → MemStoreState
with_fault s = record s { faults = count_up s.faults }

-- what a sync or a cut answers
abbrev pub store_answer : MemStoreState → Result (Unit {0}) StoreFault
store_answer s = if fails_at s.failing s.next_call then Err Failed else Ok tt

-- what an append leaves: of one that fails, the first bytes of the piece; of one that is out of memory, none
abbrev pub after_append : {T : Type 0} → Result T StoreFault → MemStoreState → List ℕ → MemStoreState
after_append (Ok value) s piece = record (called s) { bytes = s.bytes ++ piece }
after_append (Err Failed) s piece = record (with_fault (called s)) { bytes = s.bytes ++ take s.torn piece }
after_append (Err WantOfMemory) s piece = with_fault s

-- what a sync leaves
abbrev pub after_sync : {T : Type 0} → Result T StoreFault → MemStoreState → MemStoreState
after_sync (Ok value) s = record (called s) { safe = length s.bytes }
after_sync (Err fault) s = with_fault (called s)

-- the bytes cut, and no more of them safe than before
abbrev pub cut_unsafely : ℕ → MemStoreState → MemStoreState
cut_unsafely len s = record s { bytes = take len s.bytes; safe = min s.safe len }

-- what a cut leaves: one that fails may have cut
abbrev pub after_cut : {T : Type 0} → Result T StoreFault → ℕ → MemStoreState → MemStoreState
after_cut (Ok value) len s = record (called s) { bytes = take len s.bytes; safe = length (take len s.bytes) }
after_cut (Err fault) len s = with_fault (called (if s.torn == 0 then s else cut_unsafely len s))
