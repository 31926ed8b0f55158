-- Worlds that count their entries, and schedules over them, step by step.
use Rattle.std.proofs.Common.{ℕ, ◌≡◌, if◌then◌else◌, ap, true, false, List, [], ◌∷◌, Some, None, refl}
use Rattle.tea_base.specs.declared.entry.What.TheVariants as what
use Rattle.wire_frames.specs.declared.frame.ClientFrame.TheVariants.{Join, Send}
use Rattle.wire_frames.specs.declared.frame.ServerFrame.TheVariants.{Done, Recv, Refused, Sync, Tick}
use Rattle.wire_frames.specs.declared.start.Want.TheVariants as want
use Rattle.wire_frames.specs.declared.tags.TheConstants.{JOIN_TAG}
use Rattle.wire_frames.specs.declared.code.RefusalCode.TheVariants as code
use Rattle.wire_frames.specs.Codes.{code_number}
use Rattle.reflector_core.specs.declared.request.Reply.TheVariants as reply
use Rattle.reflector_core.specs.declared.request.Request.TheVariants as request
use Rattle.reflector_core.specs.Play.{first_session}
use Rattle.replica_plain.specs.declared.fault.ReplicaFault.{ReplicaFault}
use Rattle.replica_plain.specs.declared.fault.ReplicaFault.TheVariants as cause
use Rattle.replica_plain.specs.declared.how.How.TheVariants.{Resume, Whole}
use Rattle.replica_plain.specs.Worlds.{AreWorlds, Worlds}
use Rattle.replica_plain.proofs.CountedWorlds.{Counter, counters_are_worlds, counters_from}
use Rattle.system_plain.specs.ConnectionLine.{Hears, Others, Pulls, after_turns, first_line, unread_frame}
use Rattle.system_plain.specs.Schedule.{AreTypedSteps, IsSchedule, after_schedule, faults_from, faults_in, published_in, replies_in}
use Rattle.system_plain.specs.Steps.{Cut, Found, Publish, Pull, Receive, Reconnect, Restart, Snap, SystemStep, Take, Tick as Ticks, Transmit}
use Rattle.system_plain.specs.System.{first_system, view_client}
use Rattle.system_plain.specs.Traffic.{traffics_in}
use Rattle.system_plain.proofs.Schedules.{all_are_schedules}

-- nothing is published before the first entry
abbrev entry_counts : Worlds Counter ℕ
entry_counts = counters_from []

-- what is asked of a schedule can be met: each list of steps over views of 32 bits is one
any_schedule : (steps : List SystemStep) → AreTypedSteps steps → IsSchedule entry_counts steps
any_schedule steps typed = all_are_schedules entry_counts steps (counters_are_worlds []) (λ w valid. ap (λ b. if b then Some w else None) valid) typed

-- ---- a view publishes, is cut off before the answer comes, resumes and sends again

abbrev resends : List SystemStep
resends =
    Found 7 ∷ Take 0 0 ∷ Receive 7 ∷ Publish 7 (5 ∷ []) ∷ Transmit 7 ∷ Take 0 0 ∷ Cut 0 0 0 ∷ Reconnect 7 Resume ∷ Take 1 0 ∷ Receive 7 ∷ Transmit 7 ∷ Take 1 0 ∷ Ticks 0 ∷ Pull 1
    ∷ Receive 7 ∷ Receive 7 ∷ Receive 7 ∷ Receive 7 ∷ Receive 7 ∷ Take 0 0 ∷ []

the_log : (after_schedule entry_counts resends).session.log
    ≡ record { seq = 1; time = 1; view = 7; what = what.Join } ∷ record { seq = 2; time = 2; view = 7; what = what.Event 1 (5 ∷ []) } ∷ record { seq = 3; time = 3; view = 7; what = what.Join } ∷ []
the_log = refl

the_replica : view_client (after_schedule entry_counts resends).clients 7
    ≡ Some (record { replica = record { view = 7; world = record { at = 3; entries = 3 }; out = 1 ∷ 2 ∷ 3 ∷ []; broken = false; seen = 3; outbox = []; acknowledged = 1; given = 1; awaited = None; synced = true; base = None }; newest = 1 })
the_replica = refl

-- the last Take makes a Leave that is refused, so the old connection is over
the_connections : (after_schedule entry_counts resends).connections
    ≡ record { view = 7; up = []; down = []; cursor = Some (record { view = 7; joined = 1; after = 0; last_tick = 0 }); closed = true; over = true }
    ∷ record { view = 7; up = []; down = []; cursor = Some (record { view = 7; joined = 3; after = 3; last_tick = 3 }); closed = false; over = false } ∷ []
the_connections = refl

it_published_once : published_in entry_counts resends 7 ≡ (5 ∷ []) ∷ []
it_published_once = refl

-- the first connection was sent a SYNC alone that came, and gave its JOIN and the event; the second gave the event again
the_first_traffic : traffics_in entry_counts resends 0 ≡ record { given = Some (Join (record { 0 = [] }) 7 want.Fresh) ∷ Some (Send 1 (5 ∷ [])) ∷ []; received = Sync 1 0 0 None ∷ [] }
the_first_traffic = refl

the_second_traffic : traffics_in entry_counts resends 1
    ≡ record {
      given = Some (Join (record { 0 = [] }) 7 (want.After 0)) ∷ Some (Send 1 (5 ∷ [])) ∷ [];
      received =
          Sync 3 1 0 None ∷ Done 1 2 2
          ∷ Recv (record { seq = 1; time = 1; view = 7; what = what.Join }) ∷ Recv (record { seq = 2; time = 2; view = 7; what = what.Event 1 (5 ∷ []) }) ∷ Recv (record { seq = 3; time = 3; view = 7; what = what.Join }) ∷ Tick 3 ∷ [];
    }
the_second_traffic = refl

-- ---- the faults of all that a view receives in a schedule

abbrev schedule_faults : List SystemStep → List ReplicaFault
schedule_faults steps = faults_in entry_counts steps

no_faults : schedule_faults resends ≡ []
no_faults = refl

-- the event is answered twice, from one entry
its_replies : replies_in entry_counts resends ≡ reply.Stamped 2 2 ∷ reply.Again 2 2 ∷ []
its_replies = refl

-- a view gives its events twice, and gets each DONE once
one_done_each : schedule_faults
    (Found 7 ∷ Take 0 0 ∷ Receive 7 ∷ Publish 7 (5 ∷ []) ∷ Transmit 7 ∷ Transmit 7 ∷ Publish 7 (6 ∷ []) ∷ Transmit 7 ∷ Take 0 0 ∷ Take 0 0 ∷ Take 0 0 ∷ Receive 7 ∷ Receive 7 ∷ Receive 7 ∷ []) ≡ []
one_done_each = refl

-- frames are lost, and the view goes on from a new connection alone
none_after_a_cut : schedule_faults
    (Found 7 ∷ Take 0 0 ∷ Receive 7 ∷ Ticks 0 ∷ Pull 0 ∷ Publish 7 (5 ∷ []) ∷ Transmit 7 ∷ Take 0 0 ∷ Cut 0 0 0 ∷ Ticks 0 ∷ Pull 0 ∷ Take 0 0 ∷ Receive 7 ∷ Receive 7 ∷ Receive 7 ∷ Receive 7
    ∷ Restart 7 Resume ∷ Take 1 0 ∷ Ticks 0 ∷ Pull 1 ∷ Receive 7 ∷ Receive 7 ∷ Receive 7 ∷ Receive 7 ∷ Receive 7 ∷ []) ≡ []
none_after_a_cut = refl

-- what is sent once is read once
each_entry_once : schedule_faults (Found 7 ∷ Take 0 0 ∷ Ticks 0 ∷ Pull 0 ∷ Ticks 0 ∷ Pull 0 ∷ Receive 7 ∷ Receive 7 ∷ Receive 7 ∷ Receive 7 ∷ Receive 7 ∷ []) ≡ []
each_entry_once = refl

-- ---- rows that no promise pins

-- a lost world joins by the whole log, whatever was asked
whole_again : (after_schedule entry_counts (Found 7 ∷ Take 0 0 ∷ Receive 7 ∷ Restart 7 Resume ∷ [])).connections
    ≡ record { view = 7; up = []; down = []; cursor = Some (record { view = 7; joined = 1; after = 0; last_tick = 0 }); closed = true; over = false }
    ∷ record { view = 7; up = Join (record { 0 = [] }) 7 want.Whole ∷ []; down = []; cursor = None; closed = false; over = false } ∷ []
whole_again = refl

-- a SEND on a connection that is not the view's newest is answered Stale, and ends it
stale_ends : (after_schedule entry_counts (Found 7 ∷ Take 0 0 ∷ Receive 7 ∷ Publish 7 (5 ∷ []) ∷ Transmit 7 ∷ Reconnect 7 Whole ∷ Take 1 0 ∷ Take 0 0 ∷ [])).connections
    ≡ record { view = 7; up = []; down = []; cursor = Some (record { view = 7; joined = 1; after = 0; last_tick = 0 }); closed = true; over = true }
    ∷ record { view = 7; up = []; down = Sync 2 0 0 None ∷ []; cursor = Some (record { view = 7; joined = 2; after = 0; last_tick = 0 }); closed = false; over = false } ∷ []
stale_ends = refl

-- ---- a snapshot is offered, and a view begins from it

abbrev offers : List SystemStep
offers = Found 7 ∷ Take 0 0 ∷ Receive 7 ∷ Ticks 0 ∷ Pull 0 ∷ Receive 7 ∷ Receive 7 ∷ Snap 7 ∷ Take 0 0 ∷ Receive 7 ∷ Found 8 ∷ Take 1 0 ∷ Receive 8 ∷ Ticks 0 ∷ Pull 1 ∷ Receive 8 ∷ Receive 8 ∷ Ticks 0 ∷ Pull 0 ∷ Receive 7 ∷ Receive 7 ∷ []

it_is_kept : (after_schedule entry_counts offers).session.kept ≡ Some (record { time = 1; bytes = 1 ∷ 1 ∷ [] })
it_is_kept = refl

it_begins_from_the_base : view_client (after_schedule entry_counts offers).clients 8
    ≡ Some (record { replica = record { view = 8; world = record { at = 2; entries = 2 }; out = 2 ∷ []; broken = false; seen = 2; outbox = []; acknowledged = 0; given = 0; awaited = None; synced = true; base = Some 1 }; newest = 1 })
it_begins_from_the_base = refl

it_has_the_founders_world : view_client (after_schedule entry_counts offers).clients 7
    ≡ Some (record { replica = record { view = 7; world = record { at = 2; entries = 2 }; out = 1 ∷ 2 ∷ []; broken = false; seen = 2; outbox = []; acknowledged = 0; given = 0; awaited = None; synced = true; base = None }; newest = 0 })
it_has_the_founders_world = refl

nobody_faults : schedule_faults offers ≡ []
nobody_faults = refl

-- ---- why a snapshot is to spell its world: worlds that read no snapshot meet all laws of worlds, and the one that begins from it is surprised

abbrev unread_counts : Worlds Counter ℕ
unread_counts = record entry_counts { unsnap = λ bytes. None }

unread_counts_are_worlds : AreWorlds unread_counts
unread_counts_are_worlds =
    let laws = counters_are_worlds [] in
    record {
      first_time = laws.first_time;
      first_valid = laws.first_valid;
      valid_time = laws.valid_time;
      external_time = laws.external_time;
      external_valid = laws.external_valid;
      external_after = laws.external_after;
      advance_time = laws.advance_time;
      advance_valid = laws.advance_valid;
      advance_again = laws.advance_again;
      advance_rests = laws.advance_rests;
      at_rest_stays = laws.at_rest_stays;
      unsnap_valid = λ bytes w is. absurd cc;
    }

its_base_is_bad : faults_from unread_counts first_system (Found 7 ∷ Take 0 0 ∷ Receive 7 ∷ Snap 7 ∷ Take 0 0 ∷ Receive 7 ∷ Found 8 ∷ Take 1 0 ∷ Receive 8 ∷ []) ≡ cause.BadBase ∷ []
its_base_is_bad = refl

-- ---- one connection alone: the answers as they come, and then what is new

the_line : (after_turns (record { 0 = [] }) (first_line first_session)
    (Hears (Some (Join (record { 0 = [] }) 7 want.Whole)) 0 ∷ Hears (Some (Send 1 (5 ∷ []))) 0 ∷ Hears None 0 ∷ Others (request.Tick 0) ∷ Pulls ∷ Hears (Some (Send 1 (5 ∷ []))) 9 ∷ Others (request.Tick 0) ∷ Pulls ∷ [])).sent
    ≡ Sync 1 0 0 None ∷ Done 1 2 2 ∷ unread_frame
    ∷ Recv (record { seq = 1; time = 1; view = 7; what = what.Join }) ∷ Recv (record { seq = 2; time = 2; view = 7; what = what.Event 1 (5 ∷ []) }) ∷ Tick 2
    ∷ Done 1 2 2 ∷ []
the_line = refl

-- a line that does not begin with a JOIN of its session is over at once
another_session : (after_turns (record { 0 = [] }) (first_line first_session) (Hears (Some (Join (record { 0 = 1 ∷ [] }) 7 want.Whole)) 0 ∷ Hears (Some (Join (record { 0 = [] }) 7 want.Whole)) 0 ∷ Others (request.Tick 0) ∷ Pulls ∷ [])).sent
    ≡ Refused JOIN_TAG (code_number code.OtherSession) 0 0 ∷ []
another_session = refl
