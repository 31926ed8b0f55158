-- What is promised of a system after a schedule.
use Rattle.std.proofs.Common.{ℕ, ◌≡◌, ◌≤◌, true, List, ◌∷◌, Some, slice_get, sym, ap, ◌∙◌, subst, refl}
use Rattle.tea_base.specs.Readings.{last_number}
use Rattle.tea_base.proofs.LogLaws.{EachCountsItsEvents-legal}
use Rattle.wire_frames.specs.declared.frame.ClientFrame.{ClientFrame}
use Rattle.wire_frames.specs.declared.frame.ClientFrame.TheVariants as up
use Rattle.reflector_core.specs.Answer.{send_event}
use Rattle.reflector_core.specs.PlainSession.{IsSoundSession}
use Rattle.replica_plain.specs.Following.{FollowsLog, IsHonestBase}
use Rattle.replica_plain.specs.Worlds.{Worlds, replay_world}
use Rattle.replica_plain.proofs.WorldSteps.{rest_is_replay}
use Rattle.join_sync.specs.declared.cursor.Cursor.{Cursor}
use Rattle.system_plain.specs.Schedule.{HasEventsOnce, IsNoSurprise, IsNotDiffers, IsSchedule, after_schedule, next_fault, published_in}
use Rattle.system_plain.specs.Steps.{SystemStep, found}
use Rattle.system_plain.specs.System.{Client, Connection, view_client}
use Rattle.system_plain.proofs.Facts.{CursorMeant}
use Rattle.system_plain.proofs.NotDiffers.{no_send_differs}
use Rattle.system_plain.proofs.Numbers.{SendsMeant, counted}
use Rattle.system_plain.proofs.Schedules.{SystemStands, kept_by, next_on_fine}

kept_after : {W O : Type 0} (m : Worlds W O) (steps : List SystemStep) → IsSchedule m steps → SystemStands m (published_in m steps) (after_schedule m steps)
kept_after m steps is = kept_by m is.worlds steps is.typed is.spelled

pub sound_after : {W O : Type 0} (m : Worlds W O) (steps : List SystemStep) → IsSchedule m steps → IsSoundSession (after_schedule m steps).session
sound_after m steps is = (kept_after m steps is).fine.sound

pub follows_after : {W O : Type 0} (m : Worlds W O) (steps : List SystemStep) (view : ℕ) (client : Client W O) → IsSchedule m steps → view_client (after_schedule m steps).clients view ≡ Some client → FollowsLog m (after_schedule m steps).session.log client.replica
follows_after m steps view client is found = ((kept_after m steps is).fine.lives view client found).follows

pub replays_after : {W O : Type 0} (m : Worlds W O) (steps : List SystemStep) (view : ℕ) (client : Client W O) → IsSchedule m steps → view_client (after_schedule m steps).clients view ≡ Some client → m.at_rest client.replica.world ≡ true
    → client.replica.world ≡ replay_world m (after_schedule m steps).session.log (m.time client.replica.world)
replays_after m steps view client is found rests =
    let follows = follows_after m steps view client is found in
    rest_is_replay m is.worlds (after_schedule m steps).session.log client.replica.world follows.valid follows.follows rests

pub snapshots_after : {W O : Type 0} (m : Worlds W O) (steps : List SystemStep) (view other : ℕ) (one two : Client W O) → IsSchedule m steps → view_client (after_schedule m steps).clients view ≡ Some one → view_client (after_schedule m steps).clients other ≡ Some two
    → m.at_rest one.replica.world ≡ true → m.at_rest two.replica.world ≡ true → m.time one.replica.world ≡ m.time two.replica.world → m.snapshot one.replica.world ≡ m.snapshot two.replica.world
snapshots_after m steps view other one two is found_one found_two rests_one rests_two timed =
    ap m.snapshot (replays_after m steps view one is found_one rests_one ∙ ap (λ (t : ℕ). replay_world m (after_schedule m steps).session.log t) timed ∙ sym (replays_after m steps other two is found_two rests_two))

pub honest_after : {W O : Type 0} (m : Worlds W O) (steps : List SystemStep) → IsSchedule m steps → IsHonestBase m (after_schedule m steps).session.log (after_schedule m steps).session.kept
honest_after m steps is = (kept_after m steps is).fine.kept

pub events_after : {W O : Type 0} (m : Worlds W O) (steps : List SystemStep) → IsSchedule m steps → HasEventsOnce (after_schedule m steps).session.log (published_in m steps)
events_after m steps is =
    let kept = kept_after m steps is in
    record { numbers = EachCountsItsEvents-legal (after_schedule m steps).session.log kept.fine.sound.legal; few = kept.numbered.prefixes.enough; payloads = kept.numbered.prefixes.events }

pub acknowledged_after : {W O : Type 0} (m : Worlds W O) (steps : List SystemStep) (view : ℕ) (client : Client W O) → IsSchedule m steps → view_client (after_schedule m steps).clients view ≡ Some client → client.replica.acknowledged ≤ last_number (after_schedule m steps).session.log view
acknowledged_after m steps view client is found = (counted (published_in m steps) (after_schedule m steps) (kept_after m steps is).numbered).least view client found

pub no_surprise_after : {W O : Type 0} (m : Worlds W O) (steps : List SystemStep) (view : ℕ) (client : Client W O) → IsSchedule m steps → view_client (after_schedule m steps).clients view ≡ Some client → IsNoSurprise (next_fault m (after_schedule m steps) client)
no_surprise_after m steps view client is found = next_on_fine m is.worlds (published_in m steps) (after_schedule m steps) view client _ (kept_after m steps is) found refl

pub no_differs_after : {W O : Type 0} (m : Worlds W O) (steps : List SystemStep) (connection : ℕ) (c : Connection) (cursor : Cursor) (number : ℕ) (payload : List ℕ) (rest : List ClientFrame) (now : ℕ) → IsSchedule m steps → slice_get (after_schedule m steps).connections connection ≡ Some c → c.cursor ≡ Some cursor
    → c.up ≡ up.Send number payload ∷ rest → IsNotDiffers (send_event (after_schedule m steps).session cursor.view cursor.joined number payload now).reply
no_differs_after m steps connection c cursor number payload rest now is at has ups =
    let numbered = (kept_after m steps is).numbered in
    let link = numbered.links connection c at in
    let named : cursor.view ≡ c.view = subst (CursorMeant c.view) has link.cursor in
    no_send_differs (published_in m steps) (after_schedule m steps).session cursor.view cursor.joined number payload now numbered.prefixes (rw named (subst (SendsMeant (published_in m steps c.view)) ups link.sends).0)
