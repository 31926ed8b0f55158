-- Rows of the table over worlds that count their entries.
use Rattle.std.proofs.Common.{ℕ, ◌-◌, ◌^◌, ◌≡◌, true, false, List, [], ◌∷◌, Option, Some, None, Err, refl}
use Rattle.tea_base.specs.declared.entry.Entry.{Entry}
use Rattle.tea_base.specs.declared.entry.What.TheVariants as what
use Rattle.wire_frames.specs.declared.frame.ClientFrame.TheVariants.{Join, Send}
use Rattle.wire_frames.specs.declared.start.Base.{Base}
use Rattle.wire_frames.specs.declared.start.Want.TheVariants.{After}
use Rattle.wire_frames.specs.declared.frame.ServerFrame.{ServerFrame}
use Rattle.wire_frames.specs.declared.frame.ServerFrame.TheVariants.{Sync, Recv, Tick, Done, Refused, Alive}
use Rattle.wire_frames.specs.declared.tags.TheConstants.{JOIN_TAG, SEND_TAG, SNAP_TAG}
use Rattle.wire_frames.specs.declared.code.RefusalCode.TheVariants as code
use Rattle.wire_frames.specs.Codes.{code_number}
use Rattle.replica_plain.specs.declared.how.How.TheVariants.{Fresh, Whole, Resume}
use Rattle.replica_plain.specs.declared.fault.ReplicaFault.{ReplicaFault}
use Rattle.replica_plain.specs.declared.fault.ReplicaFault.TheVariants as cause
use Rattle.replica_plain.specs.Worlds.{Worlds}
use Rattle.replica_plain.specs.PlainReplica.{PlainReplica, new_replica, breaks}
use Rattle.replica_plain.specs.Taking.{taken, lost_at, IsTaken}
use Rattle.replica_plain.specs.Calls.{joining, join_frame, publishes, gives, loses, unsent}
use Rattle.replica_plain.proofs.CountedWorlds.{Counter, counters_from}

-- the first world too makes it publish how many there are
abbrev counters : Worlds Counter ℕ
counters = counters_from (0 ∷ [])

-- the replica after these frames
abbrev taken_all : {W O : Type 0} → Worlds W O → PlainReplica W O → List ServerFrame → PlainReplica W O
taken_all m r [] = r
taken_all m r (frame ∷ rest) = taken_all m (taken m r frame).replica rest

abbrev joined_entry : Entry
joined_entry = record { seq = 1; time = 4; view = 7; what = what.Join }

-- a view that published two events joins and takes its Sync
abbrev synced_view : PlainReplica Counter ℕ
synced_view = taken_all counters (joining (publishes (publishes (new_replica counters 7) (5 ∷ [])) (6 ∷ [])) Fresh) (Sync 1 0 0 None ∷ [])

both_to_be_given : unsent synced_view ≡ Send 1 (5 ∷ []) ∷ Send 2 (6 ∷ []) ∷ []
both_to_be_given = refl

-- it gives both; its join, a tick and the answer to the first event come, and the connection is lost
abbrev answered_view : PlainReplica Counter ℕ
answered_view = taken_all counters (gives synced_view) (Recv joined_entry ∷ Tick 9 ∷ Done 1 2 10 ∷ Alive ∷ [])

the_second_is_given_again : unsent (taken_all counters (joining answered_view Resume) (Sync 3 1 1 None ∷ [])) ≡ Send 2 (6 ∷ []) ∷ []
the_second_is_given_again = refl

-- its world stays, with what was published
it_goes_on : taken_all counters (joining answered_view Resume) (Sync 3 1 1 None ∷ [])
    ≡ record { view = 7; world = record { at = 9; entries = 1 }; out = 0 ∷ 1 ∷ []; broken = false; seen = 1; outbox = (6 ∷ []) ∷ []; acknowledged = 1; given = 1; awaited = None; synced = true; base = None }
it_goes_on = refl

it_awaits_a_sync : joining answered_view Resume
    ≡ record { view = 7; world = record { at = 9; entries = 1 }; out = 0 ∷ 1 ∷ []; broken = false; seen = 1; outbox = (6 ∷ []) ∷ []; acknowledged = 1; given = 1; awaited = Some Resume; synced = false; base = None }
it_awaits_a_sync = refl

it_asks_for_what_is_behind : join_frame counters answered_view Resume ≡ Join (record { 0 = [] }) 7 (After 9)
it_asks_for_what_is_behind = refl

a_lost_world_has_its_events : loses counters answered_view
    ≡ record { view = 7; world = record { at = 0; entries = 0 }; out = 0 ∷ []; broken = false; seen = 0; outbox = (6 ∷ []) ∷ []; acknowledged = 1; given = 1; awaited = None; synced = false; base = None }
a_lost_world_has_its_events = refl

a_base_makes_its_world : taken_all counters (joining answered_view Fresh) (Sync 3 1 2 (Some (record { time = 20; bytes = 20 ∷ 2 ∷ [] })) ∷ [])
    ≡ record { view = 7; world = record { at = 20; entries = 2 }; out = []; broken = false; seen = 2; outbox = (6 ∷ []) ∷ []; acknowledged = 1; given = 1; awaited = None; synced = true; base = Some 20 }
a_base_makes_its_world = refl

the_first_world_is_made_anew : taken_all counters (joining (breaks counters answered_view) Whole) (Sync 3 1 0 None ∷ [])
    ≡ record { view = 7; world = record { at = 0; entries = 0 }; out = 0 ∷ []; broken = false; seen = 0; outbox = (6 ∷ []) ∷ []; acknowledged = 1; given = 1; awaited = None; synced = true; base = None }
the_first_world_is_made_anew = refl

memory_was_wanted : lost_at counters answered_view (Tick 9)
    ≡ Some (record { view = 7; world = record { at = 0; entries = 0 }; out = []; broken = true; seen = 1; outbox = (6 ∷ []) ∷ []; acknowledged = 1; given = 2; awaited = None; synced = true; base = None })
memory_was_wanted = refl

a_refused_join_is_not_awaited : taken counters (joining answered_view Resume) (Refused JOIN_TAG (code_number code.AlreadyJoined) 3 0)
    ≡ record { replica = record answered_view { given = 1; synced = false }; fault = Some (cause.Refused JOIN_TAG (code_number code.AlreadyJoined) 3) }
a_refused_join_is_not_awaited = refl

-- ---- what a frame is refused for

abbrev fault_at : PlainReplica Counter ℕ → ServerFrame → Option ReplicaFault
fault_at r frame = (taken counters r frame).fault

abbrev base_of_time : ℕ → Option Base
base_of_time time = Some (record { time = time; bytes = 20 ∷ 2 ∷ [] })

-- a frame of a synced view
it_was_not_asked_for : fault_at answered_view (Sync 3 1 1 None) ≡ Some cause.Unasked
it_was_not_asked_for = refl

it_comes_again : fault_at answered_view (Recv joined_entry) ≡ Some (cause.OutOfOrder 2 1)
it_comes_again = refl

its_seq_has_no_next : fault_at (record answered_view { seen = 2 ^ 32 - 1 }) (Recv joined_entry) ≡ Some (cause.OutOfOrder (2 ^ 32 - 1) 1)
its_seq_has_no_next = refl

the_entry_is_back : fault_at answered_view (Recv (record { seq = 2; time = 9; view = 7; what = what.Exit })) ≡ Some (cause.Back 9)
the_entry_is_back = refl

the_tick_is_back : fault_at answered_view (Tick 8) ≡ Some (cause.Back 9)
the_tick_is_back = refl

it_is_broken : fault_at (breaks counters answered_view) (Recv joined_entry) ≡ Some cause.Broken
it_is_broken = refl

no_tick_mends_it : fault_at (breaks counters answered_view) (Tick 9) ≡ Some cause.Broken
no_tick_mends_it = refl

it_is_answered_again : fault_at answered_view (Done 1 2 10) ≡ Some (cause.OutOfOrder 2 1)
it_is_answered_again = refl

nothing_is_to_be_answered : fault_at (taken_all counters (joining (new_replica counters 7) Whole) (Sync 1 0 0 None ∷ [])) (Done 1 2 10) ≡ Some (cause.OutOfOrder 1 1)
nothing_is_to_be_answered = refl

a_refused_snapshot_is_taken : taken counters answered_view (Refused SNAP_TAG (code_number code.ViewsFull) 12 0) ≡ record { replica = answered_view; fault = None }
a_refused_snapshot_is_taken = refl

a_refused_event_is_told : taken counters answered_view (Refused SEND_TAG (code_number code.LogFull) 12 0) ≡ record { replica = answered_view; fault = Some (cause.Refused SEND_TAG (code_number code.LogFull) 12) }
a_refused_event_is_told = refl

-- a frame before any join, and a Sync of a join of each kind, in the order of its tests
no_tick_before_a_sync : fault_at (new_replica counters 7) (Tick 9) ≡ Some cause.Unasked
no_tick_before_a_sync = refl

no_answer_before_a_sync : fault_at (joining answered_view Fresh) (Done 2 3 11) ≡ Some cause.Unasked
no_answer_before_a_sync = refl

too_many_are_known : fault_at (joining answered_view Resume) (Sync 3 3 2 (base_of_time 20)) ≡ Some (cause.OutOfOrder 2 3)
too_many_are_known = refl

too_few_are_known : fault_at (joining answered_view Resume) (Sync 3 0 2 (base_of_time 20)) ≡ Some (cause.OutOfOrder 1 0)
too_few_are_known = refl

it_goes_on_elsewhere : fault_at (joining answered_view Resume) (Sync 3 1 2 (base_of_time 20)) ≡ Some (cause.OutOfOrder 1 2)
it_goes_on_elsewhere = refl

it_has_a_world : fault_at (joining answered_view Resume) (Sync 3 1 1 (base_of_time 20)) ≡ Some cause.BadBase
it_has_a_world = refl

it_begins_elsewhere : fault_at (joining answered_view Whole) (Sync 3 1 2 None) ≡ Some (cause.OutOfOrder 0 2)
it_begins_elsewhere = refl

no_base_was_asked_for : fault_at (joining answered_view Whole) (Sync 3 1 2 (base_of_time 20)) ≡ Some cause.BadBase
no_base_was_asked_for = refl

another_time_is_bad : fault_at (joining answered_view Fresh) (Sync 3 1 2 (base_of_time 21)) ≡ Some cause.BadBase
another_time_is_bad = refl

it_spells_no_world : fault_at (joining answered_view Fresh) (Sync 3 1 2 (Some (record { time = 20; bytes = 20 ∷ [] }))) ≡ Some cause.BadBase
it_spells_no_world = refl

-- ---- want of memory

it_stands_for_no_other_cause : (new : PlainReplica Counter ℕ) → IsTaken (Err cause.WantOfMemory) (lost_at counters answered_view (Tick 8)) new (taken counters answered_view (Tick 8)) → ⊥
it_stands_for_no_other_cause new is = is.0

an_answer_takes_no_memory : (new : PlainReplica Counter ℕ) → IsTaken (Err cause.WantOfMemory) (lost_at counters answered_view (Done 2 3 11)) new (taken counters answered_view (Done 2 3 11)) → ⊥
an_answer_takes_no_memory new is = let none : lost_at counters answered_view (Done 2 3 11) ≡ Some new = is.1 in absurd cc

a_sync_that_wants_it_changes_nothing : (new : PlainReplica Counter ℕ)
    → IsTaken (Err cause.WantOfMemory) (lost_at counters (joining answered_view Resume) (Sync 3 1 1 None)) new (taken counters (joining answered_view Resume) (Sync 3 1 1 None)) → new ≡ joining answered_view Resume
a_sync_that_wants_it_changes_nothing new is = let same : Some (joining answered_view Resume) ≡ Some new = is.1 in cc
