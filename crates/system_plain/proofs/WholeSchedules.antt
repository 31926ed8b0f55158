-- What holds of all that was answered in a schedule, and of the times of its frames.
use Rattle.std.specs.Prelude.{All}
use Rattle.std.proofs.lemmas.List.{append-nil}
use Rattle.std.proofs.lemmas.List.Elements.{All-append, All-cons, All-head, All-nil, All-tail}
use Rattle.std.proofs.Common.{ℕ, ◌≡◌, Bool, true, false, cond, nat_lt, List, [], ◌∷◌, ◌++◌, Option, Some, None, length, slice_get, refl, sym, subst, append_assoc, ap, ◌∙◌}
use Rattle.tea_base.specs.declared.entry.Entry.{Entry}
use Rattle.tea_base.specs.Legal.{IsLegal}
use Rattle.tea_base.specs.Limits.{most_snapshot}
use Rattle.wire_frames.specs.declared.frame.ClientFrame.{ClientFrame}
use Rattle.wire_frames.specs.declared.frame.ClientFrame.TheVariants as up
use Rattle.wire_frames.specs.declared.frame.ServerFrame.{ServerFrame}
use Rattle.wire_frames.specs.declared.frame.ServerFrame.TheVariants.{Alive, Done, Recv, Refused, Snapped, Sync, Tick}
use Rattle.wire_frames.specs.Served.{ComesAt, Place, Served, Streams, place_after}
use Rattle.wire_frames.proofs.Times.{MayFollow-at}
use Rattle.reflector_core.specs.PlainSession.{PlainSession}
use Rattle.reflector_core.specs.Answer.{SessionOutcome, answer, is_older, is_stale, leave, offer}
use Rattle.reflector_core.specs.declared.request.Reply.{Reply}
use Rattle.reflector_core.specs.declared.request.Request.{Request}
use Rattle.replica_plain.specs.declared.fault.ReplicaFault.{ReplicaFault}
use Rattle.replica_plain.specs.Taking.{taken, IsTimely}
use Rattle.replica_plain.specs.Worlds.{AreWorlds, Worlds}
use Rattle.join_sync.specs.declared.act.Act.{Act}
use Rattle.join_sync.specs.declared.act.Act.TheVariants.{Call}
use Rattle.join_sync.specs.declared.cursor.Cursor.{Cursor}
use Rattle.join_sync.specs.Requests.{act_on}
use Rattle.system_plain.specs.Schedule.{AreTypedSteps, IsExpected, IsNoSurprise, IsNotDiffers, IsSchedule, IsTypedStep, SpellWorlds, SpellsWorld, ViewPayloads, act_replies, after_schedule, client_faults, faults_from, faults_in, faults_of, next_fault, next_fault_of, next_fault_on, next_replies, nothing_published, published_after, step_replies_from, replies_in, replies_on, run_schedule, step_faults, step_replies}
use Rattle.system_plain.specs.Steps.{Receive, SystemStep, Take, after_step}
use Rattle.system_plain.specs.System.{Client, Connection, System, first_system, view_client}
use Rattle.system_plain.specs.Traffic.{traffics_in}
use Rattle.system_plain.proofs.Facts.{CursorMeant}
use Rattle.system_plain.proofs.NotDiffers.{no_send_differs}
use Rattle.system_plain.proofs.Numbers.{LogNumbers, NumbersStand, SendsMeant}
use Rattle.system_plain.proofs.Promises.{sound_after}
use Rattle.system_plain.proofs.Schedules.{SpellWorlds-push, SystemStands, first_kept, next_on_fine, step_keeps}
use Rattle.system_plain.proofs.StepRows.{false_chosen}
use Rattle.system_plain.proofs.Traffics.{traffic_is_served}

-- ---- one more step

AreTypedSteps-push : (steps : List SystemStep) (next : SystemStep) → AreTypedSteps steps → IsTypedStep next → AreTypedSteps (steps ++ next ∷ [])
AreTypedSteps-push [] next typed last = (last, tt)
AreTypedSteps-push (first ∷ steps) next typed last = (typed.0, AreTypedSteps-push steps next typed.1 last)

pub schedule_grows : {W O : Type 0} (m : Worlds W O) (steps : List SystemStep) (next : SystemStep) → IsSchedule m steps → IsTypedStep next → SpellsWorld m (after_schedule m steps) next → IsSchedule m (steps ++ next ∷ [])
schedule_grows m steps next is typed spells = record { worlds = is.worlds; typed = AreTypedSteps-push steps next is.typed typed; spelled = SpellWorlds-push m first_system steps next is.spelled spells }

pub faults_from-push : {W O : Type 0} (m : Worlds W O) (s : System W O) (steps : List SystemStep) (next : SystemStep) → faults_from m s (steps ++ next ∷ []) ≡ faults_from m s steps ++ step_faults m (run_schedule m s steps) next
faults_from-push m s [] next = append-nil (step_faults m s next)
faults_from-push m s (first ∷ steps) next =
    ap (λ (rest : List ReplicaFault). step_faults m s first ++ rest) (faults_from-push m (after_step m s first) steps next)
    ∙ sym (append_assoc (step_faults m s first) (faults_from m (after_step m s first) steps) (step_faults m (run_schedule m (after_step m s first) steps) next))

pub step_replies_from-push : {W O : Type 0} (m : Worlds W O) (s : System W O) (steps : List SystemStep) (next : SystemStep) → step_replies_from m s (steps ++ next ∷ []) ≡ step_replies_from m s steps ++ step_replies (run_schedule m s steps) next
step_replies_from-push m s [] next = append-nil (step_replies s next)
step_replies_from-push m s (first ∷ steps) next =
    ap (λ (rest : List Reply). step_replies s first ++ rest) (step_replies_from-push m (after_step m s first) steps next)
    ∙ sym (append_assoc (step_replies s first) (step_replies_from m (after_step m s first) steps) (step_replies (run_schedule m (after_step m s first) steps) next))

-- ---- what one step met and was told

pub fault_met : {W O : Type 0} (m : Worlds W O) (s : System W O) (view : ℕ) (client : Client W O) (c : Connection) (frame : ServerFrame) (rest : List ServerFrame) → view_client s.clients view ≡ Some client → slice_get s.connections client.newest ≡ Some c → c.down ≡ frame ∷ rest
    → step_faults m s (Receive view) ≡ faults_of (taken m client.replica frame).fault
fault_met m s view client c frame rest is at down =
    ap (λ (found : Option (Client _ _)). client_faults m s found) is ∙ ap (λ (found : Option Connection). faults_of (next_fault_on m client.replica found)) at
    ∙ ap (λ (frames : List ServerFrame). faults_of (next_fault_of m client.replica frames)) down

pub reply_told : {W O : Type 0} (s : System W O) (number now : ℕ) (c : Connection) (cursor : Cursor) (frame : ClientFrame) (rest : List ClientFrame) (asked : Request) → slice_get s.connections number ≡ Some c → c.over ≡ false → c.cursor ≡ Some cursor → c.up ≡ frame ∷ rest → act_on cursor frame now ≡ Call asked
    → step_replies s (Take number now) ≡ (answer s.session asked).reply ∷ []
reply_told s number now c cursor frame rest asked at going has ups is =
    ap (λ (found : Option Connection). replies_on s found now) at ∙ false_chosen {A = List Reply} c.over [] (next_replies s.session c.cursor c.up now) going
    ∙ ap (λ (x : Option Cursor). next_replies s.session x c.up now) has ∙ ap (λ (frames : List ClientFrame). next_replies s.session (Some cursor) frames now) ups
    ∙ ap (λ (act : Act). act_replies s.session act) is

-- ---- faults

expected_of : (fault : Option ReplicaFault) → IsNoSurprise fault → All IsExpected (faults_of fault)
expected_of None fine = All-nil IsExpected
expected_of (Some fault) fine = All-cons IsExpected fault [] fine (All-nil IsExpected)

client_expected : {W O : Type 0} (m : Worlds W O) → AreWorlds m → (published : ViewPayloads) (s : System W O) (view : ℕ) (found : Option (Client W O)) → SystemStands m published s → view_client s.clients view ≡ found → All IsExpected (client_faults m s found)
client_expected m laws published s view None kept is = All-nil IsExpected
client_expected m laws published s view (Some client) kept is = expected_of (next_fault m s client) (next_on_fine m laws published s view client (slice_get s.connections client.newest) kept is refl)

step_expected : {W O : Type 0} (m : Worlds W O) → AreWorlds m → (published : ViewPayloads) (s : System W O) (next : SystemStep) → SystemStands m published s → All IsExpected (step_faults m s next)
step_expected m laws published s (Receive view) kept = client_expected m laws published s view (view_client s.clients view) kept refl
step_expected m laws published s other kept = All-nil IsExpected

faults_expected : {W O : Type 0} (m : Worlds W O) → AreWorlds m → (published : ViewPayloads) (s : System W O) (steps : List SystemStep) → AreTypedSteps steps → SpellWorlds m s steps → SystemStands m published s → All IsExpected (faults_from m s steps)
faults_expected m laws published s [] typed spells kept = All-nil IsExpected
faults_expected m laws published s (next ∷ steps) typed spells kept =
    All-append IsExpected (step_faults m s next) (faults_from m (after_step m s next) steps) (step_expected m laws published s next kept)
    (faults_expected m laws (published_after s published next) (after_step m s next) steps typed.1 spells.1 (step_keeps m laws published s next typed.0 spells.0 kept))

pub schedule_expected : {W O : Type 0} (m : Worlds W O) (steps : List SystemStep) → IsSchedule m steps → All IsExpected (faults_in m steps)
schedule_expected m steps is = faults_expected m is.worlds nothing_published first_system steps is.typed is.spelled (first_kept m)

-- ---- replies

agrees_if : (test : Bool) (a b : SessionOutcome) → IsNotDiffers a.reply → IsNotDiffers b.reply → IsNotDiffers (cond test a b).reply
agrees_if true a b held fell = held
agrees_if false a b held fell = fell

offer_agrees : (s : PlainSession) (view joined time : ℕ) (bytes : List ℕ) → IsNotDiffers (offer s view joined time bytes).reply
offer_agrees s view joined time bytes =
    agrees_if (is_stale s.log view joined) _ _ tt
    (agrees_if (nat_lt most_snapshot (length bytes)) _ _ tt
    (agrees_if (nat_lt s.horizon time) _ _ tt
    (agrees_if (is_older time s.kept) _ _ tt tt)))

leave_agrees : (s : PlainSession) (view joined now : ℕ) → IsNotDiffers (leave s view joined now).reply
leave_agrees s view joined now = agrees_if (is_stale s.log view joined) _ _ tt tt

frame_agrees : (published : ViewPayloads) (s : PlainSession) (view : ℕ) (cursor : Cursor) (frame : ClientFrame) (rest : List ClientFrame) (now : ℕ) → LogNumbers published s → cursor.view ≡ view → SendsMeant (published view) (frame ∷ rest) → All IsNotDiffers (act_replies s (act_on cursor frame now))
frame_agrees published s view cursor (up.Join session joined want) rest now prefixes named sends = All-nil IsNotDiffers
frame_agrees published s view cursor (up.Send number payload) rest now prefixes named sends =
    All-cons IsNotDiffers _ [] (no_send_differs published s cursor.view cursor.joined number payload now prefixes (rw named sends.0)) (All-nil IsNotDiffers)
frame_agrees published s view cursor (up.Snap time bytes) rest now prefixes named sends = All-cons IsNotDiffers _ [] (offer_agrees s cursor.view cursor.joined time bytes) (All-nil IsNotDiffers)
frame_agrees published s view cursor up.Leave rest now prefixes named sends = All-cons IsNotDiffers _ [] (leave_agrees s cursor.view cursor.joined now) (All-nil IsNotDiffers)
frame_agrees published s view cursor up.Alive rest now prefixes named sends = All-nil IsNotDiffers

next_agrees : (published : ViewPayloads) (s : PlainSession) (view : ℕ) (cursor : Option Cursor) (ups : List ClientFrame) (now : ℕ) → LogNumbers published s → CursorMeant view cursor → SendsMeant (published view) ups → All IsNotDiffers (next_replies s cursor ups now)
next_agrees published s view None ups now prefixes named sends = All-nil IsNotDiffers
next_agrees published s view (Some cursor) [] now prefixes named sends = All-nil IsNotDiffers
next_agrees published s view (Some cursor) (frame ∷ rest) now prefixes named sends = frame_agrees published s view cursor frame rest now prefixes named sends

going_agrees : (over : Bool) (given : List Reply) → All IsNotDiffers given → All IsNotDiffers (cond over [] given)
going_agrees true given all = All-nil IsNotDiffers
going_agrees false given all = all

on_agrees : {W O : Type 0} (published : ViewPayloads) (s : System W O) (number : ℕ) (found : Option Connection) (now : ℕ) → NumbersStand published s → slice_get s.connections number ≡ found → All IsNotDiffers (replies_on s found now)
on_agrees published s number None now numbered at = All-nil IsNotDiffers
on_agrees published s number (Some c) now numbered at =
    let link = numbered.links number c at in
    going_agrees c.over (next_replies s.session c.cursor c.up now) (next_agrees published s.session c.view c.cursor c.up now numbered.prefixes link.cursor link.sends)

step_agrees : {W O : Type 0} (published : ViewPayloads) (s : System W O) (next : SystemStep) → NumbersStand published s → All IsNotDiffers (step_replies s next)
step_agrees published s (Take number now) numbered = on_agrees published s number (slice_get s.connections number) now numbered refl
step_agrees published s other numbered = All-nil IsNotDiffers

replies_agree : {W O : Type 0} (m : Worlds W O) → AreWorlds m → (published : ViewPayloads) (s : System W O) (steps : List SystemStep) → AreTypedSteps steps → SpellWorlds m s steps → SystemStands m published s → All IsNotDiffers (step_replies_from m s steps)
replies_agree m laws published s [] typed spells kept = All-nil IsNotDiffers
replies_agree m laws published s (next ∷ steps) typed spells kept =
    All-append IsNotDiffers (step_replies s next) (step_replies_from m (after_step m s next) steps) (step_agrees published s next kept.numbered)
    (replies_agree m laws (published_after s published next) (after_step m s next) steps typed.1 spells.1 (step_keeps m laws published s next typed.0 spells.0 kept))

pub schedule_agrees : {W O : Type 0} (m : Worlds W O) (steps : List SystemStep) → IsSchedule m steps → All IsNotDiffers (replies_in m steps)
schedule_agrees m steps is = replies_agree m is.worlds nothing_published first_system steps is.typed is.spelled (first_kept m)

-- ---- times

frame_in_time : (log : List Entry) (place : Place) (frame : ServerFrame) → IsLegal log → ComesAt log place frame → IsTimely frame
frame_in_time log place (Sync joined last from base) legal comes = tt
frame_in_time log place (Recv entry) legal comes = (MayFollow-at log place.seen entry legal comes).time_bound
frame_in_time log place (Tick t) legal comes = comes.1
frame_in_time log place (Done number seq time) legal comes = tt
frame_in_time log place (Snapped time) legal comes = tt
frame_in_time log place (Refused about code kept more) legal comes = tt
frame_in_time log place Alive legal comes = tt

streams_in_time : (log : List Entry) (place : Place) (frames : List ServerFrame) → IsLegal log → Streams log place frames → All IsTimely frames
streams_in_time log place [] legal streams = All-nil IsTimely
streams_in_time log place (frame ∷ rest) legal streams = All-cons IsTimely frame rest (frame_in_time log place frame legal streams.0) (streams_in_time log (place_after place frame) rest legal streams.1)

pub served_in_time : (log : List Entry) (given : List (Option ClientFrame)) (frames : List ServerFrame) → IsLegal log → Served log given frames → All IsTimely frames
served_in_time log given [] legal served = All-nil IsTimely
served_in_time log given (Refused about code kept more ∷ rest) legal served = All-cons IsTimely (Refused about code kept more) rest tt (subst (All IsTimely) (sym served) (All-nil IsTimely))
served_in_time log (Some (up.Join session view want) ∷ given) (Sync joined last from base ∷ rest) legal served =
    All-cons IsTimely (Sync joined last from base) rest tt (streams_in_time log (record { seen = from; least = served.0 }) rest legal served.2.streams)
served_in_time log given (frame ∷ rest) legal served = absurd served

behind_front : (front rest : List ServerFrame) → All IsTimely (front ++ rest) → All IsTimely rest
behind_front [] rest all = all
behind_front (frame ∷ front) rest all = behind_front front rest (All-tail IsTimely frame (front ++ rest) all)

pub connection_in_time : {W O : Type 0} (m : Worlds W O) (steps : List SystemStep) (number : ℕ) (c : Connection) → IsSchedule m steps → slice_get (after_schedule m steps).connections number ≡ Some c → All IsTimely c.down
connection_in_time m steps number c is at =
    let traffic = traffics_in m steps number in
    let legal = (sound_after m steps is).legal in
    behind_front traffic.received c.down (served_in_time (after_schedule m steps).session.log traffic.given (traffic.received ++ c.down) legal (traffic_is_served m steps number c is at))

pub next_in_time : {W O : Type 0} (m : Worlds W O) (steps : List SystemStep) (number : ℕ) (c : Connection) (frame : ServerFrame) (rest : List ServerFrame) → IsSchedule m steps → slice_get (after_schedule m steps).connections number ≡ Some c → c.down ≡ frame ∷ rest → IsTimely frame
next_in_time m steps number c frame rest is at down = All-head IsTimely frame rest (subst (All IsTimely) down (connection_in_time m steps number c is at))
