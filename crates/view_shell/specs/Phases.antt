-- The run of a view, phase by phase: where it stands, which step is due, and what the step makes of it.
use Rattle.std.specs.Prelude.{◌≡◌, ℕ, ◌+◌, ◌-◌, ◌==◌, min, nat_le, Bool, ◌&&◌, true, false, if◌then◌else◌, sum_by, List, [], ◌∷◌, ◌++◌, length, Option, Some, None}
use Rattle.byte_fields.specs.Fields.{whole}
use Rattle.tea_base.specs.Limits.{time_limit}
use Rattle.tea_io.specs.declared.link.Heard.{Heard}
use Rattle.tea_io.specs.declared.link.Heard.TheVariants as heard
use Rattle.tea_io.specs.Links.{most_quiets}
use Rattle.model_tree.specs.Tree.{ProgramTree}
use Rattle.model_value.specs.Payload.{payload_spelling}
use Rattle.sha2.specs.Sha256.{sha256}
use Rattle.snapshot_codec.specs.Spelling.{world_spelling}
use Rattle.vote_event.specs.VotePayload.{vote_payload}
use Rattle.world_plain.specs.Messages.{PlainOutgoing}
use Rattle.world_plain.specs.World.{WorldRecord}
use Rattle.world_lines.specs.WorldText.{full_text}
use Rattle.wire_frames.specs.Frames.{IsClientFrame}
use Rattle.wire_frames.specs.Reading.{server_at}
use Rattle.wire_frames.specs.Spelling.{client_spelling}
use Rattle.wire_frames.specs.declared.frame.ClientFrame.{ClientFrame}
use Rattle.wire_frames.specs.declared.frame.ClientFrame.TheVariants as client
use Rattle.wire_frames.specs.declared.frame.ServerFrame.{ServerFrame}
use Rattle.wire_frames.specs.declared.frame.ServerFrame.TheVariants as server
use Rattle.replica_plain.specs.declared.how.How.{How}
use Rattle.replica_plain.specs.declared.how.How.TheVariants.{Fresh, Whole, Resume}
use Rattle.replica_plain.specs.declared.fault.ReplicaFault.{ReplicaFault}
use Rattle.replica_plain.specs.declared.fault.ReplicaFault.TheVariants as fault
use Rattle.replica_plain.specs.Worlds.{Worlds}
use Rattle.replica_plain.specs.PlainReplica.{PlainReplica, published_count}
use Rattle.replica_plain.specs.Taking.{Taken, taken}
use Rattle.replica_plain.specs.Calls.{joining, join_frame, publishes, unsent, gives, takes_out, snap_frame}
use Rattle.view_bridge.specs.declared.topic.Topic.{Topic}
use Rattle.view_bridge.specs.Topics.{subscribes, handled_events}
use Rattle.view_script.specs.PlainLine.{PlainLine, Publish, Watch, Wait, WaitFor, Settle, Snap, Cut, Quit, Mark, Vote, Show}
use Rattle.run_steps.specs.Steps.{Step, Prints, Connects, Returns, Hears, Sends}
use Rattle.view_shell.specs.declared.ending.ViewEnd.{ViewEnd}
use Rattle.view_shell.specs.declared.ending.ViewEnd.TheVariants as ending
use Rattle.view_shell.specs.ViewText.{events_text, reached_time_line, settled_line, snapped_line, snap_refused_line, rejoined_line, mark_line, voted_line, vote_missed_line, view_line}

-- what becomes of a replica that takes a tick of its own time
abbrev pub rested : Worlds WorldRecord PlainOutgoing → PlainReplica WorldRecord PlainOutgoing
    → PlainReplica WorldRecord PlainOutgoing
rested m r = (taken m r (server.Tick (m.time r.world))).replica

-- A view while it runs. worlds: those of its session. tree: its program. address: where the session's reflector is. replica and topics:
-- what it knows and what it watches. lines: what is left of its script. receives: how often the link was heard since a frame was sent on
-- it. quiets: how often the link was quiet since it last said something else.
pub record Viewer : Type 0 where
  pub worlds : Worlds WorldRecord PlainOutgoing
  pub tree : ProgramTree
  pub address : List ℕ
  pub replica : PlainReplica WorldRecord PlainOutgoing
  pub topics : List Topic
  pub lines : List PlainLine
  pub receives : ℕ
  pub quiets : ℕ

-- a view that heard its link so often and sent nothing says that it is alive
abbrev pub most_receives : ℕ
most_receives = 1000

-- a view that has more events that are not acknowledged, or more bytes of their payloads, hears its link before it goes on
abbrev pub most_unanswered : ℕ
most_unanswered = 4096

abbrev pub most_unanswered_bytes : ℕ
most_unanswered_bytes = 65536

-- few enough events are not acknowledged
abbrev pub has_caught_up : PlainReplica WorldRecord PlainOutgoing → Bool
has_caught_up r = nat_le (length r.outbox) most_unanswered && nat_le (sum_by length r.outbox) most_unanswered_bytes

-- what a view hears its link for
pub data Aim : Type 0 where
  -- a Sync
  ToJoin : How → Aim
  -- a time
  ToReach : ℕ → Aim
  -- that each event is acknowledged
  ToSettle : Aim
  -- that few enough events are not acknowledged
  ToCatchUp : Aim
  -- the answer to its snapshot
  ToSnap : Aim
  -- an entry, on which it votes
  ToSee : ℕ → Aim

-- what a view does once its frames are sent
pub data Task : Type 0 where
  -- it hears the link
  Receives : Aim → Task
  -- its script begins
  Begins : Task
  -- a line of its script is done, and told so
  TellsText : List ℕ → Task
  -- it has left
  Leaves : Task

-- where a view stands
pub data Phase : Type 0 where
  -- a link is to be made, on which it joins so
  Connecting : Viewer → How → Phase
  -- a frame is to be sent, and these behind it, and then that is done
  Sending : Viewer → ClientFrame → List ClientFrame → Task → Phase
  -- the link is to be heard
  Receiving : Viewer → Aim → Phase
  -- a text is to be printed
  Printing : Viewer → List ℕ → Phase
  -- the text of the last events is to be printed, and then the view leaves
  Leaving : Viewer → List ℕ → Phase
  -- the last text is to be printed
  PrintingLast : List ℕ → Phase
  -- the link is to be given back, and then another one made
  Returning : Viewer → How → Phase
  Over : ViewEnd → Phase

-- ---- where a view stands next

-- the events that models published are handled, and told before a line's own text
abbrev pub shown_text : Viewer → List ℕ → List ℕ
shown_text v text = events_text (handled_events v.topics v.replica.out) ++ text

abbrev pub after_telling : Viewer → Viewer
after_telling v = record v { replica = takes_out v.replica }

-- a line of the script is done
abbrev pub finish : Viewer → List ℕ → Phase
finish v text = Printing (after_telling v) (shown_text v text)

abbrev pub settle_on : Viewer → List (List ℕ) → Phase
settle_on v [] = finish v (settled_line v.replica.acknowledged)
settle_on v (payload ∷ rest) = Receiving v ToSettle

-- the link is heard, unless what it is heard for is so already
abbrev pub receive : Viewer → Aim → Phase
receive v (ToReach time) = if nat_le time v.replica.world.time then finish v (reached_time_line v.replica.world.time)
    else Receiving v (ToReach time)
receive v ToSettle = settle_on v v.replica.outbox
receive v ToCatchUp = if has_caught_up v.replica then finish v [] else Receiving v ToCatchUp
receive v aim = Receiving v aim

-- a tick of its own time is taken, so that nothing is due at that time
abbrev pub after_rest : Viewer → Viewer
after_rest v = record v { replica = rested v.worlds v.replica }

-- the script is done: the view rests, tells what came of that, and leaves
unfoldable pub leave_session : Viewer → Phase
leave_session v = Leaving (after_telling (after_rest v)) (shown_text (after_rest v) [])

-- its world in full, as a query of a recorded session tells it
abbrev pub world_text : Viewer → List ℕ
world_text v = full_text v.tree v.replica.world

-- The view rests, so that its world is the replay of the log to its time. What came of that is told, and then that world.
unfoldable pub show_world : Viewer → Phase
show_world v = finish (after_rest v) (world_text (after_rest v))

-- the events that were not given yet count as given: they are sent next
abbrev pub after_giving : Viewer → Viewer
after_giving v = record v { replica = gives v.replica }

-- the view with the rest of its script
abbrev pub with_lines : Viewer → List PlainLine → Viewer
with_lines v lines = record v { lines = lines }

abbrev pub after_publish : Viewer → List ℕ → Viewer
after_publish v payload = record v { replica = publishes v.replica payload }

-- its frames are sent; before its script begins nothing is printed
abbrev pub begin_task : Viewer → Task → Phase
begin_task v (Receives aim) = receive v aim
begin_task v Begins = Printing v []
begin_task v (TellsText text) = finish v text
begin_task v Leaves = PrintingLast (view_line v.replica)

abbrev pub send_all : Viewer → List ClientFrame → Task → Phase
send_all v [] task = begin_task v task
send_all v (frame ∷ frames) task = Sending v frame frames task

-- the time that comes so long after this one, or the last one that there is
abbrev pub time_after : ℕ → ℕ → ℕ
time_after time span = min (time + span) (time_limit - 1)

-- an entry that the view has is missed; else the view hears its link for it
abbrev pub vote_by : Bool → Viewer → ℕ → Phase
vote_by true v at = finish v (vote_missed_line v.replica.seen)
vote_by false v at = Receiving v (ToSee at)

abbrev pub vote_on : Viewer → ℕ → Phase
vote_on v at = vote_by (nat_le at v.replica.seen) v at

-- the first of these lines: a row for each kind
abbrev pub run : Viewer → List PlainLine → Phase
run v [] = leave_session v
run v (Publish scope event value ∷ rest) =
    let w = after_publish (with_lines v rest)
    (payload_spelling (record { scope = scope; event = event; value = value })) in
    send_all (after_giving w) (unsent w.replica) (Receives ToCatchUp)
run v (Watch scope event handling ∷ rest) =
    finish (record v { lines = rest; topics = subscribes v.topics scope event handling }) []
run v (Wait time ∷ rest) = receive (with_lines v rest) (ToReach time)
run v (WaitFor span ∷ rest) = receive (with_lines v rest) (ToReach (time_after v.replica.world.time span))
run v (Settle ∷ rest) = send_all (after_giving (with_lines v rest)) (unsent v.replica) (Receives ToSettle)
run v (Snap ∷ rest) = Sending (with_lines v rest) (snap_frame v.worlds v.replica) [] (Receives ToSnap)
run v (Cut ∷ rest) = Returning (with_lines v rest) Resume
run v (Quit ∷ rest) = leave_session (with_lines v rest)
run v (Mark word ∷ rest) = finish (with_lines v rest) (mark_line word)
run v (Vote at ∷ rest) = vote_on (with_lines v rest) at
run v (Show ∷ rest) = show_world (with_lines v rest)

-- ---- joining

abbrev pub after_join : Viewer → How → Viewer
after_join v how = record v { replica = joining v.replica how; receives = 0; quiets = 0 }

abbrev pub enter_session : Viewer → How → Phase
enter_session v how = Sending (after_join v how) (join_frame v.worlds v.replica how) [] (Receives (ToJoin how))

-- ---- hearing

-- a view that heard its link often enough and sent nothing says that it is alive, and then goes on
abbrev pub alive : Viewer → List ClientFrame
alive v = if v.receives == most_receives then client.Alive ∷ [] else []

abbrev pub go_on : Viewer → List ClientFrame → Task → Phase
go_on v frames task = send_all v (alive v ++ frames) task

-- a Sync was taken: the script begins, or goes on behind a cut once the events that are not acknowledged were sent again
abbrev pub after_sync : Viewer → How → ℕ → ℕ → Phase
after_sync v Fresh joined from = go_on v [] Begins
after_sync v Whole joined from = go_on v [] Begins
after_sync v Resume joined from = go_on (after_giving v) (unsent v.replica) (TellsText (rejoined_line joined from))

-- the payload of a vote on this entry by a view that has this world
abbrev pub vote_spelling : ℕ → WorldRecord → List ℕ
vote_spelling at w = payload_spelling (vote_payload at (sha256 (world_spelling w)))

-- the view votes on this entry: it publishes the digest that its world has now
abbrev pub after_vote : Viewer → ℕ → Viewer
after_vote v at = after_publish v (vote_spelling at v.replica.world)

-- what was published is sent, and told as the vote on this entry
abbrev pub give_vote : Viewer → ℕ → Phase
give_vote v at = go_on (after_giving v) (unsent v.replica) (TellsText (voted_line at (published_count v.replica)))

-- directly after the entry on which it votes it does so; till then it hears its link
abbrev pub after_entry : Bool → Viewer → ℕ → Phase
after_entry true v at = give_vote (after_vote v at) at
after_entry false v at = go_on v [] (Receives (ToSee at))

-- a frame was taken
abbrev pub after_frame : Viewer → Aim → ServerFrame → Phase
after_frame v (ToJoin how) (server.Sync joined last from base) = after_sync v how joined from
after_frame v ToSnap (server.Snapped time) = go_on v [] (TellsText (snapped_line time))
after_frame v ToSnap (server.Refused about code kept more) = go_on v [] (TellsText (snap_refused_line code kept))
after_frame v (ToSee at) frame = after_entry (nat_le at v.replica.seen) v at
after_frame v aim frame = go_on v [] (Receives aim)

-- a base that is none: a view that joins for the first time asks for the whole log then
abbrev pub bad_base : Viewer → Aim → Phase
bad_base v (ToJoin Fresh) = Returning v Whole
bad_base v aim = Over ending.Peer

-- What the replica made of a frame. One whose memory ran out is broken from then on.
abbrev pub phase_behind_frame : Viewer → Aim → ServerFrame → Option ReplicaFault → Phase
phase_behind_frame v aim frame None = after_frame v aim frame
phase_behind_frame v aim frame (Some (fault.Refused about code kept)) = Over (ending.Refused code kept)
phase_behind_frame v aim frame (Some fault.BadBase) = bad_base v aim
phase_behind_frame v aim frame (Some fault.Unasked) = Over ending.Peer
phase_behind_frame v aim frame (Some (fault.OutOfOrder expected found)) = Over ending.Peer
phase_behind_frame v aim frame (Some (fault.Back time)) = Over ending.Peer
phase_behind_frame v aim frame (Some fault.Broken) = Over ending.WantOfMemory
phase_behind_frame v aim frame (Some fault.WantOfMemory) = Over ending.WantOfMemory

abbrev pub with_taken : Viewer → Taken WorldRecord PlainOutgoing → Viewer
with_taken v t = record v { replica = t.replica }

abbrev pub reads : Viewer → Aim → Option ServerFrame → Phase
reads v aim None = Over ending.Peer
reads v aim (Some frame) =
    let t = taken v.worlds v.replica frame in
    phase_behind_frame (with_taken v t) aim frame t.fault

-- the link was heard once more, and was not quiet, or was
abbrev pub heard_frame : Viewer → Viewer
heard_frame v = record v { receives = v.receives + 1; quiets = 0 }

abbrev pub heard_quiet : Viewer → Viewer
heard_quiet v = record v { receives = v.receives + 1; quiets = v.quiets + 1 }

abbrev pub quiet : Viewer → Aim → Phase
quiet v aim = if v.quiets == most_quiets then Over ending.Ended else go_on v [] (Receives aim)

-- ---- the step that is due, and what it makes of a phase

-- what the link said
abbrev pub Hearing : Viewer → Aim → Heard → Phase → Type 0
Hearing v aim (heard.Frame bytes) next = next ≡ reads (heard_frame v) aim (whole server_at bytes)
Hearing v aim heard.Quiet next = next ≡ quiet (heard_quiet v) aim
Hearing v aim heard.End next = next ≡ Over ending.Ended
Hearing v aim what next = ⊥

-- A snapshot that is sent is read again as the view's world. So what is offered can be read off the steps.
abbrev pub IsReadAsWorld : Viewer → ClientFrame → Type 0
IsReadAsWorld v (client.Snap time bytes) = v.worlds.unsnap bytes ≡ Some v.replica.world
IsReadAsWorld v frame = Unit {0}

abbrev pub Moves : Phase → Step → Phase → Type 0
Moves (Connecting v how) (Connects address) next = (address ≡ v.address) × (next ≡ enter_session v how)
Moves (Sending v frame frames task) (Sends bytes) next =
    (bytes ≡ client_spelling frame) × IsClientFrame frame × IsReadAsWorld v frame
    × (next ≡ send_all (record v { receives = 0 }) frames task)
Moves (Receiving v aim) (Hears what) next = Hearing v aim what next
Moves (Printing v text) (Prints piece) next = (piece ≡ text) × (next ≡ run v v.lines)
Moves (Leaving v text) (Prints piece) next = (piece ≡ text) × (next ≡ Sending v client.Leave [] Leaves)
Moves (PrintingLast text) (Prints piece) next = (piece ≡ text) × (next ≡ Over ending.Done)
Moves (Returning v how) Returns next = next ≡ Connecting v how
Moves phase step next = ⊥

-- these steps lead from one phase to another
abbrev pub Walks : Phase → List Step → Phase → Type 0
Walks from [] to = from ≡ to
Walks from (step ∷ steps) to = (next : Phase) × Moves from step next × Walks next steps to
