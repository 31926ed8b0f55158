-- Schedules of steps, and what they say of what was published.
use Rattle.std.specs.Prelude.{◌≡◌, ◌≤◌, ◌<◌, ◌^◌, ℕ, ◌==◌, Bool, true, false, ◌&&◌, if◌then◌else◌, List, [], ◌∷◌, ◌++◌, length, map, take, slice_get, Option, Some, None}
use Rattle.std.specs.Option.{option_map_or}
use Rattle.tea_base.specs.declared.entry.Entry.{Entry}
use Rattle.tea_base.specs.Readings.{event_payload, last_number, view_events}
use Rattle.tea_base.specs.Legal.{EachCountsItsEvents}
use Rattle.wire_frames.specs.declared.frame.ClientFrame.{ClientFrame}
use Rattle.wire_frames.specs.declared.frame.ServerFrame.{ServerFrame}
use Rattle.reflector_core.specs.PlainSession.{PlainSession}
use Rattle.reflector_core.specs.Answer.{answer}
use Rattle.reflector_core.specs.declared.request.Reply.{Reply}
use Rattle.reflector_core.specs.declared.request.Reply.TheVariants as reply
use Rattle.reflector_core.specs.declared.request.Refusal.TheVariants as refusal
use Rattle.join_sync.specs.declared.act.Act.{Act}
use Rattle.join_sync.specs.declared.act.Act.TheVariants.{Call, Answer}
use Rattle.join_sync.specs.declared.cursor.Cursor.{Cursor}
use Rattle.join_sync.specs.Requests.{act_on}
use Rattle.replica_plain.specs.declared.fault.ReplicaFault.{ReplicaFault}
use Rattle.replica_plain.specs.declared.fault.ReplicaFault.TheVariants as cause
use Rattle.replica_plain.specs.Worlds.{Worlds, AreWorlds}
use Rattle.replica_plain.specs.PlainReplica.{PlainReplica}
use Rattle.replica_plain.specs.Taking.{taken}
use Rattle.system_plain.specs.System.{System, Client, Connection, first_system, is_open, view_client}
use Rattle.system_plain.specs.Steps.{SystemStep, Found, Publish, Receive, Snap, Take, after_step, may_publish}

-- the system after these steps
abbrev pub run_schedule : {W O : Type 0} → Worlds W O → System W O → List SystemStep → System W O
run_schedule m s [] = s
run_schedule m s (step ∷ steps) = run_schedule m (after_step m s step) steps

-- ---- what a schedule may be

-- a view is a number of 32 bits
abbrev pub IsTypedStep : SystemStep → Type 0
IsTypedStep (Found view) = view < 2 ^ 32
IsTypedStep other = Unit {0}

abbrev pub AreTypedSteps : List SystemStep → Type 0
AreTypedSteps [] = Unit {0}
AreTypedSteps (step ∷ steps) = IsTypedStep step × AreTypedSteps steps

abbrev pub SpellsWorldOn : {W O : Type 0} → Worlds W O → Client W O → Option Connection → Type 0
SpellsWorldOn m client None = Unit {0}
SpellsWorldOn m client (Some c) =
    is_open c ≡ true → m.unsnap (m.snapshot client.replica.world) ≡ Some client.replica.world

abbrev pub SpellsWorldBy : {W O : Type 0} → Worlds W O → System W O → Option (Client W O) → Type 0
SpellsWorldBy m s None = Unit {0}
SpellsWorldBy m s (Some client) = SpellsWorldOn m client (slice_get s.connections client.newest)

-- a snapshot that a step sends spells the world that it was made of
abbrev pub SpellsWorld : {W O : Type 0} → Worlds W O → System W O → SystemStep → Type 0
SpellsWorld m s (Snap view) = SpellsWorldBy m s (view_client s.clients view)
SpellsWorld m s other = Unit {0}

abbrev pub SpellWorlds : {W O : Type 0} → Worlds W O → System W O → List SystemStep → Type 0
SpellWorlds m s [] = Unit {0}
SpellWorlds m s (step ∷ steps) = SpellsWorld m s step × SpellWorlds m (after_step m s step) steps

-- ---- a schedule begins with the first system

pub record IsSchedule {W O : Type 0} (m : Worlds W O) (steps : List SystemStep) : Type 0 where
  pub worlds : AreWorlds m
  pub typed : AreTypedSteps steps
  pub spelled : SpellWorlds m first_system steps

abbrev pub after_schedule : {W O : Type 0} → Worlds W O → List SystemStep → System W O
after_schedule m steps = run_schedule m first_system steps

-- ---- what was published

-- the payloads that each view published, in order
abbrev pub ViewPayloads : Type 0
ViewPayloads = ℕ → List (List ℕ)

abbrev pub nothing_published : ViewPayloads
nothing_published view = []

-- the view has a replica that may publish it
abbrev pub can_publish : {W O : Type 0} → System W O → ℕ → List ℕ → Bool
can_publish s view payload = option_map_or (λ client. may_publish client.replica payload)
    (view_client s.clients view) false

-- after a step: a Publish that publishes adds its payload
abbrev pub published_after : {W O : Type 0} → System W O → ViewPayloads → SystemStep → ViewPayloads
published_after s published (Publish view payload) =
    λ other. if can_publish s view payload && (other == view) then published other ++ payload ∷ [] else published other
published_after s published other = published

-- after a schedule
abbrev pub published_by : {W O : Type 0} → Worlds W O → System W O → ViewPayloads → List SystemStep → ViewPayloads
published_by m s published [] = published
published_by m s published (step ∷ steps) =
    published_by m (after_step m s step) (published_after s published step) steps

abbrev pub published_in : {W O : Type 0} → Worlds W O → List SystemStep → ViewPayloads
published_in m steps = published_by m first_system nothing_published steps

-- the payloads of a view's Events in a log, in order
abbrev pub view_payloads : List Entry → ℕ → List (List ℕ)
view_payloads log view = map (λ entry. event_payload entry.what) (view_events log view)

-- each view's Events are, by number and payload, the first of what it published, each once
pub record HasEventsOnce (log : List Entry) (published : ViewPayloads) : Type 0 where
  pub numbers : EachCountsItsEvents log
  pub few : (view : ℕ) → last_number log view ≤ length (published view)
  pub payloads : (view : ℕ) → view_payloads log view ≡ take (last_number log view) (published view)

-- ---- what a replica answers at the next frame that it receives, and what a SEND may be answered

-- nothing, or that a frame of its own was refused
abbrev pub IsNoSurprise : Option ReplicaFault → Type 0
IsNoSurprise None = Unit {0}
IsNoSurprise (Some (cause.Refused about code kept)) = Unit {0}
IsNoSurprise (Some other) = ⊥

abbrev pub next_fault_of : {W O : Type 0} → Worlds W O → PlainReplica W O → List ServerFrame → Option ReplicaFault
next_fault_of m r [] = None
next_fault_of m r (frame ∷ rest) = (taken m r frame).fault

abbrev pub next_fault_on : {W O : Type 0} → Worlds W O → PlainReplica W O → Option Connection → Option ReplicaFault
next_fault_on m r None = None
next_fault_on m r (Some c) = next_fault_of m r c.down

-- the fault, if any, of the next Receive of a client
abbrev pub next_fault : {W O : Type 0} → Worlds W O → System W O → Client W O → Option ReplicaFault
next_fault m s client = next_fault_on m client.replica (slice_get s.connections client.newest)

-- the reply does not say that an event was sent before with another payload
abbrev pub IsNotDiffers : Reply → Type 0
IsNotDiffers (reply.Refused (refusal.Differs seq)) = ⊥
IsNotDiffers other = Unit {0}

-- ---- the faults that the Receives of a schedule met, in order

abbrev pub faults_of : Option ReplicaFault → List ReplicaFault
faults_of None = []
faults_of (Some fault) = fault ∷ []

abbrev pub client_faults : {W O : Type 0} → Worlds W O → System W O → Option (Client W O) → List ReplicaFault
client_faults m s None = []
client_faults m s (Some client) = faults_of (next_fault m s client)

abbrev pub step_faults : {W O : Type 0} → Worlds W O → System W O → SystemStep → List ReplicaFault
step_faults m s (Receive view) = client_faults m s (view_client s.clients view)
step_faults m s other = []

abbrev pub faults_from : {W O : Type 0} → Worlds W O → System W O → List SystemStep → List ReplicaFault
faults_from m s [] = []
faults_from m s (step ∷ steps) = step_faults m s step ++ faults_from m (after_step m s step) steps

abbrev pub faults_in : {W O : Type 0} → Worlds W O → List SystemStep → List ReplicaFault
faults_in m steps = faults_from m first_system steps

-- it is that a frame of the replica's own was refused
abbrev pub IsExpected : ReplicaFault → Type 0
IsExpected fault = IsNoSurprise (Some fault)

-- ---- the replies to the requests of joined connections in a schedule, in order

abbrev pub act_replies : PlainSession → Act → List Reply
act_replies s (Call request) = (answer s request).reply ∷ []
act_replies s (Answer frame) = []

abbrev pub next_replies : PlainSession → Option Cursor → List ClientFrame → ℕ → List Reply
next_replies s None up now = []
next_replies s (Some cursor) [] now = []
next_replies s (Some cursor) (frame ∷ rest) now = act_replies s (act_on cursor frame now)

abbrev pub replies_on : {W O : Type 0} → System W O → Option Connection → ℕ → List Reply
replies_on s None now = []
replies_on s (Some c) now = if c.over then [] else next_replies s.session c.cursor c.up now

-- a Take of a frame behind the first one of its connection may make a request
abbrev pub step_replies : {W O : Type 0} → System W O → SystemStep → List Reply
step_replies s (Take number now) = replies_on s (slice_get s.connections number) now
step_replies s other = []

abbrev pub step_replies_from : {W O : Type 0} → Worlds W O → System W O → List SystemStep → List Reply
step_replies_from m s [] = []
step_replies_from m s (step ∷ steps) = step_replies s step ++ step_replies_from m (after_step m s step) steps

abbrev pub replies_in : {W O : Type 0} → Worlds W O → List SystemStep → List Reply
replies_in m steps = step_replies_from m first_system steps
