-- What a session sends has times of TeaTime.
use Rattle.std.proofs.Common.{ℕ, ◌+◌, ◌<◌, Bool, true, false, if◌then◌else◌, List, [], ◌∷◌, ◌++◌, Some, None, zero, suc, length, take, drop, nat_le, nat_lt, arith}
use Rattle.std.specs.List.{AllByRecursion}
use Rattle.tea_base.specs.declared.entry.Entry.{Entry}
use Rattle.tea_base.specs.Legal.{IsLegalAfter}
use Rattle.tea_base.specs.Limits.{time_limit}
use Rattle.reflector_core.specs.PlainSession.{PlainSession, IsSoundSession}
use Rattle.reflector_core.specs.Answer.{pull, refuses, with_reply}
use Rattle.reflector_core.specs.declared.request.Reply.TheVariants.{Batch}
use Rattle.reflector_core.specs.declared.request.Refusal.TheVariants.{NoSuchSeq}
use Rattle.join_sync.specs.declared.cursor.Cursor.{Cursor}
use Rattle.join_sync.specs.Batches.{entry_frames, newer_tick, next_frames, tick_frames}
use Rattle.replica_plain.specs.Taking.{IsTimely}

-- ---- a fact of each item

pub all-append : {A : Type 0} (P : A → Type 0) (xs ys : List A) → AllByRecursion P xs → AllByRecursion P ys → AllByRecursion P (xs ++ ys)
all-append P [] ys all more = more
all-append P (x ∷ xs) ys all more = (all.0, all-append P xs ys all.1 more)

pub all-take : {A : Type 0} (P : A → Type 0) (k : ℕ) (xs : List A) → AllByRecursion P xs → AllByRecursion P (take k xs)
all-take P zero xs all = tt
all-take P (suc k) [] all = tt
all-take P (suc k) (x ∷ xs) all = (all.0, all-take P k xs all.1)

pub all-drop : {A : Type 0} (P : A → Type 0) (k : ℕ) (xs : List A) → AllByRecursion P xs → AllByRecursion P (drop k xs)
all-drop P zero xs all = all
all-drop P (suc k) [] all = tt
all-drop P (suc k) (x ∷ xs) all = all-drop P k xs all.1

-- ---- batches

abbrev HasTime : Entry → Type 0
HasTime entry = entry.time < time_limit

legal_times : (before log : List Entry) → IsLegalAfter before log → AllByRecursion HasTime log
legal_times before [] legal = tt
legal_times before (entry ∷ rest) legal = (legal.0.time_bound, legal_times (before ++ entry ∷ []) rest legal.1)

entries_timely : (entries : List Entry) → AllByRecursion HasTime entries → AllByRecursion IsTimely (entry_frames entries)
entries_timely [] all = tt
entries_timely (entry ∷ rest) all = (all.0, entries_timely rest all.1)

tick_if : (newer : Bool) (time : ℕ) → time < time_limit → AllByRecursion IsTimely (tick_frames (if newer then Some time else None))
tick_if true time bound = (bound, tt)
tick_if false time bound = tt

tick_timely : (last time : ℕ) (whole : Bool) → time < time_limit → AllByRecursion IsTimely (tick_frames (newer_tick last (if whole then Some time else None)))
tick_timely last time true bound = tick_if (nat_lt last time) time bound
tick_timely last time false bound = tt

pull_if : (s : PlainSession) (cursor : Cursor) (missing whole : Bool) (after limit : ℕ) → IsSoundSession s
    → AllByRecursion IsTimely (next_frames cursor (if missing then refuses s (NoSuchSeq (length s.log)) else with_reply s (Batch (take limit (drop after s.log)) (if whole then Some s.horizon else None))).reply)
pull_if s cursor true whole after limit sound = tt
pull_if s cursor false whole after limit sound =
    all-append IsTimely (entry_frames (take limit (drop after s.log))) (tick_frames (newer_tick cursor.last_tick (if whole then Some s.horizon else None)))
    (entries_timely (take limit (drop after s.log)) (all-take HasTime limit (drop after s.log) (all-drop HasTime after s.log (legal_times [] s.log sound.legal))))
    (tick_timely cursor.last_tick s.horizon whole (let b = sound.bounded in omega arith))

-- what a pull sends
pub pulled_timely : (s : PlainSession) (cursor : Cursor) (after limit : ℕ) → IsSoundSession s → AllByRecursion IsTimely (next_frames cursor (pull s after limit).reply)
pulled_timely s cursor after limit sound = pull_if s cursor (nat_lt (length s.log) after) (nat_le (length s.log) (after + limit)) after limit sound
