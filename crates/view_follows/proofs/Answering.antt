-- A view whose links are answered hears no frame that it does not take, but for refusals.
use Rattle.std.proofs.Common.{◌≡◌, inl, inr, ◌≤◌, ◌+◌, ◌-◌, ◌==◌, eqb, if◌then◌else◌, cond, max, ℕ, Bool, true, false, List, [], ◌∷◌, ◌++◌, length, drop, map, Option, Some, None, refl, sym, ap, subst, arith, ◌∙◌, append_assoc, length-append}
use Rattle.std.specs.Prelude.{◌⊎◌, nat_le, nat_lt, slice_get}
use Rattle.std.specs.List.{AllByRecursion}
use Rattle.std.proofs.lemmas.Bool.Decides.{nat_tests}
use Rattle.std.proofs.lemmas.List.{append-nil, length-drop, map-append}
use Rattle.byte_fields.specs.Fields.{whole}
use Rattle.byte_fields.proofs.Codecs.{whole_again}
use Rattle.tea_base.specs.declared.entry.Entry.{Entry}
use Rattle.tea_base.specs.declared.entry.SessionId.{SessionId}
use Rattle.tea_base.specs.declared.entry.What.TheVariants as what
use Rattle.tea_base.specs.Legal.{IsLegal}
use Rattle.tea_io.specs.declared.link.Heard.{Heard}
use Rattle.tea_io.specs.declared.link.Heard.TheVariants as said
use Rattle.tea_io.specs.Links.{most_quiets}
use Rattle.wire_frames.specs.Frames.{IsClientFrame}
use Rattle.wire_frames.specs.Reading.{client_at, server_at}
use Rattle.wire_frames.specs.Spelling.{client_spelling}
use Rattle.wire_frames.specs.Served.{AnswersInOrder, BeginsFor, ComesAt, Place, Served, Streams, answers_of, place_after, place_after_all}
use Rattle.wire_frames.specs.declared.start.Base.{Base}
use Rattle.wire_frames.specs.declared.start.Want.{Want}
use Rattle.wire_frames.specs.declared.frame.ClientFrame.{ClientFrame}
use Rattle.wire_frames.specs.declared.frame.ClientFrame.TheVariants as client
use Rattle.wire_frames.specs.declared.frame.ServerFrame.{ServerFrame}
use Rattle.wire_frames.specs.declared.frame.ServerFrame.TheVariants.{Sync, Recv, Tick, Done, Snapped, Refused, Alive}
use Rattle.wire_frames.specs.declared.tags.TheConstants.{JOIN_TAG, SNAP_TAG}
use Rattle.wire_frames.proofs.ClientCodec.{client_codec}
use Rattle.model_value.specs.Payload.{payload_spelling}
use Rattle.replica_plain.specs.declared.how.How.{How}
use Rattle.replica_plain.specs.declared.how.How.TheVariants.{Fresh, Whole, Resume}
use Rattle.replica_plain.specs.declared.fault.ReplicaFault.{ReplicaFault}
use Rattle.replica_plain.specs.declared.fault.ReplicaFault.TheVariants as fault
use Rattle.replica_plain.specs.Worlds.{AreWorlds}
use Rattle.replica_plain.specs.PlainReplica.{published_count}
use Rattle.replica_plain.specs.Calls.{gives, join_frame, join_want, publishes, sends_after, takes_out, unsent}
use Rattle.replica_plain.specs.Taking.{Taken, faults, take_done, taken, takes}
use Rattle.replica_plain.specs.Following.{FollowsLog, IsHonestBase, MayJoin}
use Rattle.replica_plain.proofs.FrameSteps.{SameWorld, StandsAt, behind_frame, same_stands, when_synced_is}
use Rattle.replica_plain.proofs.SyncSteps.{sync_begins}
use Rattle.replica_plain.proofs.Numbers.{BeginsEvents, SyncAnswers, sync_answers}
use Rattle.run_steps.specs.Steps.{Step, Prints, Connects, Returns, Hears, Sends}
use Rattle.view_script.specs.PlainLine.{PlainLine, Publish, Watch, Wait, WaitFor, Settle, Snap, Cut, Quit, Mark, Vote, Show}
use Rattle.view_shell.specs.declared.ending.ViewEnd.{ViewEnd}
use Rattle.view_shell.specs.declared.ending.ViewEnd.TheVariants as ending
use Rattle.view_shell.specs.Phases.{Viewer, Phase, Aim, Task, ToJoin, ToReach, ToSettle, ToCatchUp, ToSnap, ToSee, Receives, Begins, TellsText, Leaves, Connecting, Sending, Receiving, Printing, Leaving, PrintingLast, Returning, Over, Hearing, Moves, Walks, after_frame, after_giving, after_publish, alive, begin_task, enter_session, go_on, has_caught_up, heard_frame, heard_quiet, leave_session, most_receives, phase_behind_frame, reads, receive, rested, run, send_all, settle_on, show_world, with_lines, with_taken, time_after, after_entry, after_vote, vote_by, vote_spelling}
use Rattle.view_shell.proofs.Keeping.{taken_keeps}
use Rattle.view_follows.specs.Answered.{AreAnswered, CountsEvents, IsAnswered, SyncsCountEvents, new_link}
use Rattle.view_follows.specs.Links.{BeginsHonestly, LinkTalk}
use Rattle.view_follows.specs.Sessions.{ComesFrom}
use Rattle.view_follows.proofs.Heard.{all_last, begins_link, begins_served, comes_last, dones-append, first_sent, place_last, read_last, some_alike}
use Rattle.view_follows.proofs.Numbers.{CountUp, IsAt, IsNoRefusal, answered_at, answers-append, counted_at, count_up-append, dones, dones_so, none_refused, numbers-append, numbers_in, sends_count_up, sends_length, sent_at}
use Rattle.view_follows.proofs.Stands.{HasReplay, RealReplica, RealWorlds, TellsReplay, rest_stands, same_replay, tick_replays}

-- ---- the events of a view

-- the numbers of all events that were sent on a link, or are to be sent next
abbrev pub numbers_on : LinkTalk → List ClientFrame → List ℕ
numbers_on link frames = numbers_in (map (whole client_at) link.sent) ++ numbers_in (map Some frames)

-- those behind `start` were sent since the Sync, and so many of them were answered
pub record HasGiven (r : RealReplica) (start done : ℕ) (numbers : List ℕ) : Type 0 where
  up : CountUp start numbers
  given : start + length numbers ≡ r.given
  acknowledged : start + done ≡ r.acknowledged
  least : r.acknowledged ≤ r.given
  few : r.given ≤ published_count r

-- of the same events as many were given and acknowledged
record SameEvents (r other : RealReplica) : Type 0 where
  outbox : other.outbox ≡ r.outbox
  acknowledged : other.acknowledged ≡ r.acknowledged
  given : other.given ≡ r.given

same_given : (r other : RealReplica) (start done : ℕ) (numbers : List ℕ) → SameEvents r other → HasGiven r start done numbers → HasGiven other start done numbers
same_given r other start done numbers same has = record {
  up = has.up;
  given = has.given ∙ sym same.given;
  acknowledged = has.acknowledged ∙ sym same.acknowledged;
  least = rw (same.acknowledged, same.given) has.least;
  few = rw (same.acknowledged, same.given, same.outbox) has.few;
}

published_given : (r : RealReplica) (payload : List ℕ) (start done : ℕ) (numbers : List ℕ) → HasGiven r start done numbers → HasGiven (publishes r payload) start done numbers
published_given r payload start done numbers has =
    let more : length (r.outbox ++ payload ∷ []) ≡ length r.outbox + 1 = length-append r.outbox (payload ∷ []) in
    record { up = has.up; given = has.given; acknowledged = has.acknowledged; least = has.least; few = omega (arith, has.few, more) }

-- those that were not given are given
gives_given : (r : RealReplica) (start done : ℕ) (numbers : List ℕ) → r.synced ≡ true → HasGiven r start done numbers → HasGiven (gives r) start done (numbers ++ numbers_in (map Some (unsent r)))
gives_given r start done numbers synced has =
    let payloads = drop (r.given - r.acknowledged) r.outbox in
    let least = has.least in
    let few = has.few in
    let given = has.given in
    let sends : length (numbers_in (map Some (sends_after r.given payloads))) ≡ length payloads = sends_length r.given payloads in
    let left : length payloads ≡ length r.outbox - (r.given - r.acknowledged) = length-drop (r.given - r.acknowledged) r.outbox in
    let all : length (numbers ++ numbers_in (map Some (sends_after r.given payloads))) ≡ length numbers + length (numbers_in (map Some (sends_after r.given payloads))) = length-append numbers (numbers_in (map Some (sends_after r.given payloads))) in
    rw synced (record {
      up = count_up-append start numbers (numbers_in (map Some (sends_after r.given payloads))) has.up (subst (λ (n : ℕ). CountUp n (numbers_in (map Some (sends_after r.given payloads)))) (sym given) (sends_count_up r.given payloads));
      given = omega (arith, sends, left, all, least, few, given);
      acknowledged = has.acknowledged;
      least = omega (arith, least, few);
      few = omega arith;
    })

-- ---- the next answer

same_if : (r : RealReplica) (test : Bool) (one other : Taken _ _) → SameEvents r one.replica → SameEvents r other.replica → SameEvents r (cond test one other).replica
same_if r true one other same same_too = same
same_if r false one other same same_too = same_too

same_itself : (r : RealReplica) → SameEvents r r
same_itself r = record { outbox = refl; acknowledged = refl; given = refl }

entry_same : (m : RealWorlds) (r : RealReplica) (entry : Entry) → SameEvents r (taken m r (Recv entry)).replica
entry_same m r entry =
    same_if r r.synced _ _
    (same_if r r.broken _ _ (same_itself r)
    (same_if r (eqb entry.seq (r.seen + 1)) _ _ (same_if r (nat_le entry.time (m.time r.world)) _ _ (same_itself r) (record { outbox = refl; acknowledged = refl; given = refl })) (same_itself r)))
    (same_itself r)

tick_same : (m : RealWorlds) (r : RealReplica) (t : ℕ) → SameEvents r (taken m r (Tick t)).replica
tick_same m r t =
    same_if r r.synced _ _
    (same_if r r.broken _ _ (same_itself r) (same_if r (nat_lt t (m.time r.world)) _ _ (same_itself r) (record { outbox = refl; acknowledged = refl; given = refl })))
    (same_itself r)

-- the answer to the next event is taken
record TakesDone (t : Taken _ _) (start done : ℕ) (numbers : List ℕ) : Type 0 where
  fine : t.fault ≡ None
  has : HasGiven t.replica start done numbers

takes_done_of : (r : RealReplica) (outbox : List (List ℕ)) (number start done next : ℕ) (numbers : List ℕ) → r.outbox ≡ outbox → number ≡ r.acknowledged + 1 → number ≤ r.given → next ≡ done + 1 → HasGiven r start done numbers
    → TakesDone (take_done r outbox number) start next numbers
takes_done_of r [] number start done next numbers held is within one has =
    let few = has.few in
    let none : length r.outbox ≡ 0 = ap length held in
    absurd (omega (arith, few, none, is, within))
takes_done_of r (payload ∷ rest) number start done next numbers held is within one has =
    let right : eqb number (r.acknowledged + 1) ≡ true = grind (arith, nat_tests) in
    let greatest : max r.given (r.acknowledged + 1) ≡ r.given = grind arith in
    let acknowledged = has.acknowledged in
    let few = has.few in
    let long : length r.outbox ≡ length (payload ∷ rest) = ap length held in
    rw right (record {
      fine = refl;
      has = record {
        up = has.up;
        given = has.given ∙ sym greatest;
        acknowledged = omega (arith, acknowledged, one);
        least = omega (arith, greatest, is, within);
        few = omega (arith, greatest, few, long);
      };
    })

takes_done : (m : RealWorlds) (r : RealReplica) (number seq time start done next : ℕ) (numbers : List ℕ) → r.synced ≡ true → number ≡ r.acknowledged + 1 → number ≤ r.given → next ≡ done + 1 → HasGiven r start done numbers
    → TakesDone (taken m r (Done number seq time)) start next numbers
takes_done m r number seq time start done next numbers synced is within one has =
    subst (λ (t : Taken _ _). TakesDone t start next numbers) (sym (when_synced_is r (take_done r r.outbox number) synced)) (takes_done_of r r.outbox number start done next numbers refl is within one has)

-- ---- a JOIN

same_want : (session other : SessionId) (view seen : ℕ) (want found : Want) → Some (client.Join session view want) ≡ Some (client.Join other seen found) → want ≡ found
same_want session other view seen want found is = cc

-- ---- how a view stands to what its links told

module _ (m : RealWorlds) (log : List Entry) (view : ℕ) where
  -- it follows the log
  pub record Knows (own : RealWorlds) (r : RealReplica) : Type 0 where
    pub same : own ≡ m
    pub its : r.view ≡ view
    pub follows : FollowsLog m log r

  -- nothing was heard, or that something is refused
  abbrev pub NoSync : List (Option ServerFrame) → Type 0
  NoSync heard = (heard ≡ []) ⊎ ((about code kept more : ℕ) × (heard ≡ Some (Refused about code kept more) ∷ []))

  -- it awaits a Sync: its JOIN was sent first, or is, and no event
  pub record Awaits (how : How) (own : RealWorlds) (r : RealReplica) (link : LinkTalk) (frames : List ClientFrame) : Type 0 where
    pub knows : Knows own r
    awaited : r.awaited ≡ Some how
    others : List (Option ClientFrame)
    sent : map (whole client_at) link.sent ++ map Some frames ≡ Some (join_frame m r how) ∷ others
    none : numbers_in others ≡ []
    heard : NoSync link.heard

  -- it took its Sync, and frames after it
  pub record Reads (own : RealWorlds) (r : RealReplica) (link : LinkTalk) (frames : List ClientFrame) : Type 0 where
    same : own ≡ m
    its : r.view ≡ view
    joined : ℕ
    last : ℕ
    from : ℕ
    base : Option Base
    entry : Entry
    behind : List ServerFrame
    heard : link.heard ≡ map Some (Sync joined last from base ∷ behind)
    by : slice_get log (joined - 1) ≡ Some entry
    stands : StandsAt m log (place_after_all (record { seen = from; least = entry.time }) behind) r
    none : AllByRecursion IsNoRefusal behind
    start : ℕ
    has : HasGiven r start (dones behind) (numbers_on link frames)

  abbrev pub StandsFor : Aim → RealWorlds → RealReplica → LinkTalk → List ClientFrame → Type 0
  StandsFor (ToJoin how) own r link frames = Awaits how own r link frames
  StandsFor (ToReach time) own r link frames = Reads own r link frames
  StandsFor ToSettle own r link frames = Reads own r link frames
  StandsFor ToCatchUp own r link frames = Reads own r link frames
  StandsFor ToSnap own r link frames = Reads own r link frames
  StandsFor (ToSee at) own r link frames = Reads own r link frames

  abbrev pub StandsTo : Task → RealWorlds → RealReplica → LinkTalk → List ClientFrame → Type 0
  StandsTo (Receives aim) own r link frames = StandsFor aim own r link frames
  StandsTo Begins own r link frames = Reads own r link frames
  StandsTo (TellsText text) own r link frames = Reads own r link frames
  StandsTo Leaves own r link frames = HasReplay m log view r

  -- no view is done but by its last line
  abbrev pub IsOtherEnd : ViewEnd → Type 0
  IsOtherEnd ending.Peer = ⊥
  IsOtherEnd ending.Done = ⊥
  IsOtherEnd end = Unit {0}

  abbrev pub StandsIn : Phase → LinkTalk → Type 0
  StandsIn (Connecting v how) link = Knows v.worlds v.replica
  StandsIn (Sending v frame frames task) link = StandsTo task v.worlds v.replica link (frame ∷ frames)
  StandsIn (Receiving v aim) link = StandsFor aim v.worlds v.replica link []
  StandsIn (Printing v text) link = Reads v.worlds v.replica link []
  StandsIn (Leaving v text) link = HasReplay m log view v.replica
  StandsIn (PrintingLast line) link = TellsReplay m log view line
  StandsIn (Returning v how) link = Knows v.worlds v.replica
  StandsIn (Over end) link = IsOtherEnd end

  if_phase : (test : Bool) (p q : Phase) (link : LinkTalk) → StandsIn p link → StandsIn q link → StandsIn (if test then p else q) link
  if_phase true p q link first second = first
  if_phase false p q link first second = second

  -- ---- what is done next

  same_reads : (own : RealWorlds) (r other : RealReplica) (link : LinkTalk) (frames : List ClientFrame) → SameWorld r other → other.view ≡ r.view → SameEvents r other → Reads own r link frames → Reads own other link frames
  same_reads own r other link frames same kept events reads = record {
    same = reads.same;
    its = kept ∙ reads.its;
    joined = reads.joined;
    last = reads.last;
    from = reads.from;
    base = reads.base;
    entry = reads.entry;
    behind = reads.behind;
    heard = reads.heard;
    by = reads.by;
    stands = same_stands m log _ r other same reads.stands;
    none = reads.none;
    start = reads.start;
    has = same_given r other reads.start (dones reads.behind) (numbers_on link frames) events reads.has;
  }

  reads_told : (own : RealWorlds) (r : RealReplica) (link : LinkTalk) → Reads own r link [] → Reads own (takes_out r) link []
  reads_told own r link reads = same_reads own r (takes_out r) link [] (record { world = refl; seen = refl; broken = refl; synced = refl }) refl (record { outbox = refl; acknowledged = refl; given = refl }) reads

  -- the same with other events, which are sent next
  with_events : (own : RealWorlds) (r other : RealReplica) (link : LinkTalk) (frames more : List ClientFrame) → SameWorld r other → other.view ≡ r.view → (reads : Reads own r link frames)
      → HasGiven other reads.start (dones reads.behind) (numbers_on link more) → Reads own other link more
  with_events own r other link frames more same kept reads has = record {
    same = reads.same;
    its = kept ∙ reads.its;
    joined = reads.joined;
    last = reads.last;
    from = reads.from;
    base = reads.base;
    entry = reads.entry;
    behind = reads.behind;
    heard = reads.heard;
    by = reads.by;
    stands = same_stands m log _ r other same reads.stands;
    none = reads.none;
    start = reads.start;
    has = has;
  }

  reads_published : (own : RealWorlds) (r : RealReplica) (payload : List ℕ) (link : LinkTalk) → Reads own r link [] → Reads own (publishes r payload) link []
  reads_published own r payload link reads =
      with_events own r (publishes r payload) link [] [] (record { world = refl; seen = refl; broken = refl; synced = refl }) refl reads
      (published_given r payload reads.start (dones reads.behind) (numbers_on link []) reads.has)

  -- none is waiting to be sent
  all_sent : (link : LinkTalk) (more : List ℕ) → numbers_on link [] ++ more ≡ numbers_in (map (whole client_at) link.sent) ++ more
  all_sent link more = ap (λ (ns : List ℕ). ns ++ more) (append-nil (numbers_in (map (whole client_at) link.sent)))

  reads_given : (own : RealWorlds) (r : RealReplica) (link : LinkTalk) → Reads own r link [] → Reads own (gives r) link (unsent r)
  reads_given own r link reads =
      with_events own r (gives r) link [] (unsent r) (record { world = refl; seen = refl; broken = refl; synced = refl }) refl reads
      (subst (HasGiven (gives r) reads.start (dones reads.behind)) (all_sent link (numbers_in (map Some (unsent r))))
      (gives_given r reads.start (dones reads.behind) (numbers_on link []) reads.stands.synced reads.has))

  pub reads_know : (own : RealWorlds) (r : RealReplica) (link : LinkTalk) → Reads own r link [] → Knows own r
  reads_know own r link reads = record { same = reads.same; its = reads.its; follows = reads.stands.follows }

  reach_stands : (v : Viewer) (time : ℕ) (link : LinkTalk) → Reads v.worlds v.replica link [] → StandsIn (receive v (ToReach time)) link
  reach_stands v time link reads = if_phase (nat_le time v.replica.world.time) _ _ link (reads_told v.worlds v.replica link reads) reads

  settle_stands : (v : Viewer) (outbox : List (List ℕ)) (link : LinkTalk) → Reads v.worlds v.replica link [] → StandsIn (settle_on v outbox) link
  settle_stands v [] link reads = reads_told v.worlds v.replica link reads
  settle_stands v (payload ∷ rest) link reads = reads

  receive_stands : (v : Viewer) (aim : Aim) (link : LinkTalk) → StandsFor aim v.worlds v.replica link [] → StandsIn (receive v aim) link
  receive_stands v (ToJoin how) link stands = stands
  receive_stands v (ToReach time) link stands = reach_stands v time link stands
  receive_stands v ToSettle link stands = settle_stands v v.replica.outbox link stands
  receive_stands v ToCatchUp link stands = if_phase (has_caught_up v.replica) _ _ link (reads_told v.worlds v.replica link stands) stands
  receive_stands v ToSnap link stands = stands
  receive_stands v (ToSee at) link stands = stands

  pub begin_stands : (v : Viewer) (task : Task) (link : LinkTalk) → StandsTo task v.worlds v.replica link [] → StandsIn (begin_task v task) link
  begin_stands v (Receives aim) link stands = receive_stands v aim link stands
  begin_stands v Begins link stands = stands
  begin_stands v (TellsText text) link stands = reads_told v.worlds v.replica link stands
  begin_stands v Leaves link stands = record { replica = v.replica; has = stands; told = refl }

  send_stands : (v : Viewer) (frames : List ClientFrame) (task : Task) (link : LinkTalk) → StandsTo task v.worlds v.replica link frames → StandsIn (send_all v frames task) link
  send_stands v [] task link stands = begin_stands v task link stands
  send_stands v (frame ∷ frames) task link stands = stands

  leave_replays : AreWorlds m → IsLegal log → (own : RealWorlds) (r : RealReplica) (link : LinkTalk) → Reads own r link [] → HasReplay m log view (takes_out (rested own r))
  leave_replays laws legal own r link reads =
      let has = tick_replays m log view laws legal r reads.stands.synced reads.stands.follows reads.its in
      subst (λ (w : RealWorlds). HasReplay m log view (takes_out (rested w r))) (sym reads.same)
      (same_replay m log view (rested m r) (takes_out (rested m r)) (record { world = refl; seen = refl; broken = refl; synced = refl }) refl has)

  pub leave_stands : AreWorlds m → IsLegal log → (v : Viewer) (link : LinkTalk) → Reads v.worlds v.replica link [] → StandsIn (leave_session v) link
  unfolding leave_session
  leave_stands laws legal v link reads = leave_replays laws legal v.worlds v.replica link reads

  vote_stands : (has : Bool) (v : Viewer) (at : ℕ) (link : LinkTalk) → Reads v.worlds v.replica link [] → StandsIn (vote_by has v at) link
  vote_stands true v at link reads = reads_told v.worlds v.replica link reads
  vote_stands false v at link reads = reads

  reads_rested : AreWorlds m → IsLegal log → (own : RealWorlds) (r : RealReplica) (link : LinkTalk) → Reads own r link [] → Reads own (rested own r) link []
  reads_rested laws legal own r link reads =
      subst (λ (w : RealWorlds). Reads own (rested w r) link []) (sym reads.same)
      (record {
        same = reads.same;
        its = (taken_keeps m r (Tick (m.time r.world))).view ∙ reads.its;
        joined = reads.joined;
        last = reads.last;
        from = reads.from;
        base = reads.base;
        entry = reads.entry;
        behind = reads.behind;
        heard = reads.heard;
        by = reads.by;
        stands = rest_stands m log view laws legal _ r reads.stands;
        none = reads.none;
        start = reads.start;
        has = same_given r (rested m r) reads.start (dones reads.behind) (numbers_on link []) (tick_same m r (m.time r.world)) reads.has;
      })

  show_stands : AreWorlds m → IsLegal log → (v : Viewer) (link : LinkTalk) → Reads v.worlds v.replica link [] → StandsIn (show_world v) link
  unfolding show_world
  show_stands laws legal v link reads = reads_told v.worlds (rested v.worlds v.replica) link (reads_rested laws legal v.worlds v.replica link reads)

  pub run_stands : AreWorlds m → IsLegal log → (v : Viewer) (lines : List PlainLine) (link : LinkTalk) → Reads v.worlds v.replica link [] → StandsIn (run v lines) link
  run_stands laws legal v [] link reads = leave_stands laws legal v link reads
  run_stands laws legal v (Publish scope event value ∷ rest) link reads =
      let payload = payload_spelling (record { scope = scope; event = event; value = value }) in
      let w = after_publish (with_lines v rest) payload in
      send_stands (after_giving w) (unsent w.replica) (Receives ToCatchUp) link (reads_given v.worlds (publishes v.replica payload) link (reads_published v.worlds v.replica payload link reads))
  run_stands laws legal v (Watch scope event handling ∷ rest) link reads = reads_told v.worlds v.replica link reads
  run_stands laws legal v (Wait time ∷ rest) link reads = reach_stands (with_lines v rest) time link reads
  run_stands laws legal v (WaitFor span ∷ rest) link reads = reach_stands (with_lines v rest) (time_after v.replica.world.time span) link reads
  run_stands laws legal v (Settle ∷ rest) link reads = send_stands (after_giving (with_lines v rest)) (unsent v.replica) (Receives ToSettle) link (reads_given v.worlds v.replica link reads)
  run_stands laws legal v (Snap ∷ rest) link reads = with_events v.worlds v.replica v.replica link [] _ (record { world = refl; seen = refl; broken = refl; synced = refl }) refl reads reads.has
  run_stands laws legal v (Cut ∷ rest) link reads = reads_know v.worlds v.replica link reads
  run_stands laws legal v (Quit ∷ rest) link reads = leave_stands laws legal (with_lines v rest) link reads
  run_stands laws legal v (Mark word ∷ rest) link reads = reads_told v.worlds v.replica link reads
  run_stands laws legal v (Vote at ∷ rest) link reads = vote_stands (nat_le at v.replica.seen) (with_lines v rest) at link reads
  run_stands laws legal v (Show ∷ rest) link reads = show_stands laws legal (with_lines v rest) link reads

  -- an ALIVE is sent before the other frames
  await_alive : (how : How) (own : RealWorlds) (r : RealReplica) (link : LinkTalk) (test : Bool) → Awaits how own r link [] → Awaits how own r link ((if test then client.Alive ∷ [] else []) ++ [])
  await_alive how own r link false awaits = awaits
  await_alive how own r link true awaits = record {
    knows = awaits.knows;
    awaited = awaits.awaited;
    others = awaits.others ++ Some client.Alive ∷ [];
    sent = ap (λ (fs : List (Option ClientFrame)). fs ++ Some client.Alive ∷ []) (sym (append-nil (map (whole client_at) link.sent)) ∙ awaits.sent);
    none = numbers-append awaits.others (Some client.Alive ∷ []) ∙ append-nil (numbers_in awaits.others) ∙ awaits.none;
    heard = awaits.heard;
  }

  reads_alive : (own : RealWorlds) (r : RealReplica) (link : LinkTalk) (test : Bool) (frames : List ClientFrame) → Reads own r link frames → Reads own r link ((if test then client.Alive ∷ [] else []) ++ frames)
  reads_alive own r link false frames reads = reads
  reads_alive own r link true frames reads = with_events own r r link frames (client.Alive ∷ frames) (record { world = refl; seen = refl; broken = refl; synced = refl }) refl reads reads.has

  go_on_reads : (v : Viewer) (frames : List ClientFrame) (task : Task) (link : LinkTalk) → ((more : List ClientFrame) → Reads v.worlds v.replica link more → StandsTo task v.worlds v.replica link more) → Reads v.worlds v.replica link frames
      → StandsIn (go_on v frames task) link
  go_on_reads v frames task link is reads = send_stands v (alive v ++ frames) task link (is (alive v ++ frames) (reads_alive v.worlds v.replica link (v.receives == most_receives) frames reads))

  go_on_awaits : (v : Viewer) (how : How) (link : LinkTalk) → Awaits how v.worlds v.replica link [] → StandsIn (go_on v [] (Receives (ToJoin how))) link
  go_on_awaits v how link awaits = send_stands v (alive v ++ []) (Receives (ToJoin how)) link (await_alive how v.worlds v.replica link (v.receives == most_receives) awaits)

  -- ---- a frame is taken after the Sync

  abbrev IsNoJoin : Aim → Type 0
  IsNoJoin (ToJoin how) = ⊥
  IsNoJoin (ToReach time) = Unit {0}
  IsNoJoin ToSettle = Unit {0}
  IsNoJoin ToCatchUp = Unit {0}
  IsNoJoin ToSnap = Unit {0}
  IsNoJoin (ToSee at) = Unit {0}

  entry_stands : (has : Bool) (v : Viewer) (at : ℕ) (link : LinkTalk) → Reads v.worlds v.replica link [] → StandsIn (after_entry has v at) link
  entry_stands true v at link reads =
      let payload = vote_spelling at v.replica.world in
      let w = after_vote v at in
      go_on_reads (after_giving w) (unsent w.replica) (TellsText _) link (λ more r. r) (reads_given v.worlds (publishes v.replica payload) link (reads_published v.worlds v.replica payload link reads))
  entry_stands false v at link reads = go_on_reads v [] (Receives (ToSee at)) link (λ more r. r) reads

  after_frame_stands : (v : Viewer) (aim : Aim) (frame : ServerFrame) (link : LinkTalk) → IsNoJoin aim → Reads v.worlds v.replica link [] → StandsIn (after_frame v aim frame) link
  after_frame_stands v (ToJoin how) frame link is reads = absurd is
  after_frame_stands v (ToReach time) frame link is reads = go_on_reads v [] (Receives (ToReach time)) link (λ more r. r) reads
  after_frame_stands v ToSettle frame link is reads = go_on_reads v [] (Receives ToSettle) link (λ more r. r) reads
  after_frame_stands v ToCatchUp frame link is reads = go_on_reads v [] (Receives ToCatchUp) link (λ more r. r) reads
  after_frame_stands v (ToSee at) frame link is reads = entry_stands (nat_le at v.replica.seen) v at link reads
  after_frame_stands v ToSnap (Snapped time) link is reads = go_on_reads v [] (TellsText _) link (λ more r. r) reads
  after_frame_stands v ToSnap (Refused about code kept more) link is reads = go_on_reads v [] (TellsText _) link (λ more r. r) reads
  after_frame_stands v ToSnap frame link is reads = go_on_reads v [] (Receives ToSnap) link (λ more r. r) reads

  taken_stands : (v : Viewer) (aim : Aim) (frame : ServerFrame) (found : Option ReplicaFault) (link : LinkTalk) → IsNoJoin aim → found ≡ None → Reads v.worlds v.replica link [] → StandsIn (phase_behind_frame v aim frame found) link
  taken_stands v aim frame found link is fine reads = subst (λ (f : Option ReplicaFault). StandsIn (phase_behind_frame v aim frame f) link) (sym fine) (after_frame_stands v aim frame link is reads)

  -- a frame is taken, or it tells a refusal
  record TakesNext (frame : ServerFrame) (t : Taken _ _) (start done : ℕ) (numbers : List ℕ) : Type 0 where
    fine : t.fault ≡ None
    none : IsNoRefusal frame
    has : HasGiven t.replica start (done + dones (frame ∷ [])) numbers

  abbrev IsRefused : Option ReplicaFault → Type 0
  IsRefused (Some (fault.Refused about code kept)) = Unit {0}
  IsRefused found = ⊥

  refused_stands : (v : Viewer) (aim : Aim) (frame : ServerFrame) (found : Option ReplicaFault) (link : LinkTalk) → IsRefused found → StandsIn (phase_behind_frame v aim frame found) link
  refused_stands v aim frame None link is = absurd is
  refused_stands v aim frame (Some (fault.Refused about code kept)) link is = tt
  refused_stands v aim frame (Some other) link is = absurd is

  takes_refused : (r other : RealReplica) (about code kept more start done : ℕ) (numbers : List ℕ) (of_snap of_join : Bool) → (of_snap ≡ true → about ≡ SNAP_TAG) → HasGiven r start (done + 0) numbers
      → let t = (if of_snap then takes r else if of_join then faults other (fault.Refused about code kept) else faults r (fault.Refused about code kept)) in
      TakesNext (Refused about code kept more) t start done numbers ⊎ IsRefused t.fault
  takes_refused r other about code kept more start done numbers true of_join is has = inl (record { fine = refl; none = is refl; has = has })
  takes_refused r other about code kept more start done numbers false true is has = inr tt
  takes_refused r other about code kept more start done numbers false false is has = inr tt

  -- what is answered next
  abbrev AnswersNext : RealReplica → ServerFrame → Type 0
  AnswersNext r (Done number seq time) = (number ≡ r.acknowledged + 1) × (number ≤ r.given)
  AnswersNext r frame = Unit {0}

  takes_next : AreWorlds m → IsLegal log → (place : Place) (r : RealReplica) (frame : ServerFrame) (start done : ℕ) (numbers : List ℕ) → StandsAt m log place r → ComesAt log place frame → AnswersNext r frame → HasGiven r start done numbers
      → TakesNext frame (taken m r frame) start done numbers ⊎ IsRefused (taken m r frame).fault
  takes_next laws legal place r (Sync joined last from base) start done numbers stands comes next has = absurd comes
  takes_next laws legal place r (Recv entry) start done numbers stands comes next has =
      let same : done + 0 ≡ done = omega arith in
      inl (record { fine = (behind_frame m laws log place r (Recv entry) legal stands comes).read; none = tt; has = rw same (same_given r (taken m r (Recv entry)).replica start done numbers (entry_same m r entry) has) })
  takes_next laws legal place r (Tick time) start done numbers stands comes next has =
      let same : done + 0 ≡ done = omega arith in
      inl (record { fine = (behind_frame m laws log place r (Tick time) legal stands comes).read; none = tt; has = rw same (same_given r (taken m r (Tick time)).replica start done numbers (tick_same m r time) has) })
  takes_next laws legal place r (Done number seq time) start done numbers stands comes next has =
      let taken = takes_done m r number seq time start done (done + 1) numbers stands.synced next.0 next.1 refl has in
      inl (record { fine = taken.fine; none = tt; has = taken.has })
  takes_next laws legal place r (Snapped time) start done numbers stands comes next has =
      let same : done + 0 ≡ done = omega arith in
      subst (λ (t : Taken _ _). TakesNext (Snapped time) t start done numbers ⊎ IsRefused t.fault) (sym (when_synced_is r (takes r) stands.synced)) (inl (record { fine = refl; none = tt; has = rw same has }))
  takes_next laws legal place r (Refused about code kept more) start done numbers stands comes next has =
      let same : done + 0 ≡ done = omega arith in
      takes_refused r (record r { awaited = None }) about code kept more start done numbers (about == SNAP_TAG) (about == JOIN_TAG) (λ (is : (about == SNAP_TAG) ≡ true). grind (arith, nat_tests)) (rw same has)
  takes_next laws legal place r Alive start done numbers stands comes next has =
      let same : done + 0 ≡ done = omega arith in
      inl (record { fine = refl; none = tt; has = rw same has })

  -- ---- a frame is heard after the Sync

  abbrev pub heard_more : LinkTalk → Option ServerFrame → LinkTalk
  heard_more link found = record link { heard = link.heard ++ found ∷ [] }

  -- what the log serves with this frame
  record ServesNext (joined last from least : ℕ) (base : Option Base) (behind : List ServerFrame) (frame : ServerFrame) (link : LinkTalk) : Type 0 where
    comes : ComesAt log (place_after_all (record { seen = from; least = least }) behind) frame
    seen : ℕ
    given : List (List ℕ)
    more : List (Option ClientFrame)
    heard : ComesFrom given link.sent
    counts : numbers_in (map (whole client_at) given) ≡ numbers_in more
    answers : AnswersInOrder log seen more (answers_of (behind ++ frame ∷ []))

  same_entry : (one other : Entry) (found : Option Entry) → found ≡ Some one → found ≡ Some other → one.time ≡ other.time
  same_entry one other found is other_is = let same : Some one ≡ Some other = cc in let entry : one ≡ other = cc in ap (λ (e : Entry). e.time) entry

  serves_next : (joined last from : ℕ) (base : Option Base) (entry : Entry) (behind : List ServerFrame) (frame : ServerFrame) (link : LinkTalk) (given : List (List ℕ)) → ComesFrom given link.sent → slice_get log (joined - 1) ≡ Some entry
      → Served log (map (whole client_at) given) (Sync joined last from base ∷ (behind ++ frame ∷ [])) → ServesNext joined last from entry.time base behind frame link
  serves_next joined last from base entry behind frame link given comes by served =
      let begins = begins_served log (map (whole client_at) given) joined last from base (behind ++ frame ∷ []) served in
      let time = same_entry _ entry (slice_get log (joined - 1)) begins.answers.entry by in
      record {
        comes = comes_last log (record { seen = from; least = entry.time }) behind frame (subst (λ (t : ℕ). Streams log (record { seen = from; least = t }) (behind ++ frame ∷ [])) time begins.rest.streams);
        seen = begins.view;
        given = given;
        more = begins.more;
        heard = comes;
        counts = ap numbers_in begins.is;
        answers = begins.rest.answers;
      }

  answers_next : (r : RealReplica) (joined last from least start : ℕ) (base : Option Base) (behind : List ServerFrame) (frame : ServerFrame) (link : LinkTalk) → ServesNext joined last from least base behind frame link → AllByRecursion IsNoRefusal behind
      → HasGiven r start (dones behind) (numbers_on link []) → AnswersNext r frame
  answers_next r joined last from least start base behind (Done number seq time) link serves none has =
      let order = subst (AnswersInOrder log serves.seen serves.more) (answers-append behind (Done number seq time ∷ [])) serves.answers in
      let at = answered_at log serves.seen number seq time serves.more (answers_of behind) (none_refused behind none) order in
      let place = subst (λ (k : ℕ). IsAt (numbers_in serves.more) k number) (dones_so behind) at in
      let sent = sent_at number serves.given link.sent serves.heard (dones behind) (subst (λ (ns : List ℕ). IsAt ns (dones behind) number) (sym serves.counts) place) in
      let counted = counted_at start (numbers_on link []) (dones behind) number has.up (subst (λ (ns : List ℕ). IsAt ns (dones behind) number) (sym (append-nil (numbers_in (map (whole client_at) link.sent)))) sent) in
      let acknowledged = has.acknowledged in
      let given = has.given in
      let is = counted.is in
      let within = counted.within in
      (omega (arith, acknowledged, is), omega (arith, given, is, within))
  answers_next r joined last from least start base behind frame link serves none has = tt

  -- the view behind a frame that was taken
  read_more : (own : RealWorlds) (r other : RealReplica) (link : LinkTalk) (frame : ServerFrame) (reads : Reads own r link []) → other.view ≡ r.view
      → StandsAt m log (place_after (place_after_all (record { seen = reads.from; least = reads.entry.time }) reads.behind) frame) other → IsNoRefusal frame
      → HasGiven other reads.start (dones reads.behind + dones (frame ∷ [])) (numbers_on link []) → Reads own other (heard_more link (Some frame)) []
  read_more own r other link frame reads kept stands none has = record {
    same = reads.same;
    its = kept ∙ reads.its;
    joined = reads.joined;
    last = reads.last;
    from = reads.from;
    base = reads.base;
    entry = reads.entry;
    behind = reads.behind ++ frame ∷ [];
    heard = ap (λ (fs : List (Option ServerFrame)). fs ++ Some frame ∷ []) reads.heard ∙ sym (map-append Some (Sync reads.joined reads.last reads.from reads.base ∷ reads.behind) (frame ∷ []));
    by = reads.by;
    stands = subst (λ (p : Place). StandsAt m log p other) (sym (place_last (record { seen = reads.from; least = reads.entry.time }) reads.behind frame)) stands;
    none = all_last IsNoRefusal reads.behind frame reads.none none;
    start = reads.start;
    has = subst (λ (n : ℕ). HasGiven other reads.start n (numbers_on link [])) (sym (dones-append reads.behind (frame ∷ []))) has;
  }

  module _ (laws : AreWorlds m) (legal : IsLegal log) where
    read_hears : (v : Viewer) (aim : Aim) (frame : ServerFrame) (link : LinkTalk) → IsNoJoin aim → (reads : Reads v.worlds v.replica link []) → ServesNext reads.joined reads.last reads.from reads.entry.time reads.base reads.behind frame link
        → let t = taken m v.replica frame in StandsIn (phase_behind_frame (with_taken v t) aim frame t.fault) (heard_more link (Some frame))
    read_hears v aim frame link is reads serves =
        let place = place_after_all (record { seen = reads.from; least = reads.entry.time }) reads.behind in
        let t = taken m v.replica frame in
        let behind = behind_frame m laws log place v.replica frame legal reads.stands serves.comes in
        let next = answers_next v.replica reads.joined reads.last reads.from reads.entry.time reads.start reads.base reads.behind frame link serves reads.none reads.has in
        elim (takes_next laws legal place v.replica frame reads.start (dones reads.behind) (numbers_on link []) reads.stands serves.comes next reads.has) [
          | inl takes ↦
              taken_stands (with_taken v t) aim frame t.fault (heard_more link (Some frame)) is takes.fine
              (read_more v.worlds v.replica t.replica link frame reads (taken_keeps m v.replica frame).view behind.stands takes.none takes.has)
          | inr refused ↦ refused_stands (with_taken v t) aim frame t.fault (heard_more link (Some frame)) refused
        ]

    -- the frames that were served are those that were heard before, and this one
    reads_found : (v : Viewer) (aim : Aim) (found : Option ServerFrame) (link : LinkTalk) → IsNoJoin aim → Reads v.worlds v.replica link [] → IsAnswered m log (heard_more link found) → StandsIn (reads v aim found) (heard_more link found)
    reads_found v aim found link is read answered =
        let it = read_last answered.frames link.heard found answered.heard in
        let before = some_alike it.front (Sync read.joined read.last read.from read.base ∷ read.behind) (it.before ∙ read.heard) in
        let all : answered.frames ≡ Sync read.joined read.last read.from read.base ∷ (read.behind ++ it.frame ∷ []) = it.all ∙ ap (λ (fs : List ServerFrame). fs ++ it.frame ∷ []) before in
        let serves = serves_next read.joined read.last read.from read.base read.entry read.behind it.frame link answered.given answered.comes read.by (subst (Served log (map (whole client_at) answered.given)) all answered.served) in
        subst (λ (f : Option ServerFrame). StandsIn (reads v aim f) (heard_more link f)) (sym it.is)
        (subst (λ (w : RealWorlds). let t = taken w v.replica it.frame in StandsIn (phase_behind_frame (with_taken v t) aim it.frame t.fault) (heard_more link (Some it.frame))) (sym read.same)
        (read_hears v aim it.frame link is read serves))

    -- ---- the Sync is heard

    may_join : (r : RealReplica) (how : How) → FollowsLog m log r → MayJoin m log r how
    may_join r Fresh follows = tt
    may_join r Whole follows = tt
    may_join r Resume follows = follows

    -- a Sync that is taken begins the events
    begins_events : (r : RealReplica) (t : Taken _ _) → SyncAnswers r t → t.fault ≡ None → BeginsEvents r t.replica
    begins_events r t (inl refused) fine = absurd cc
    begins_events r t (inr begins) fine = begins

    synced_given : (r other : RealReplica) (numbers : List ℕ) → BeginsEvents r other → numbers ≡ [] → HasGiven other r.acknowledged 0 numbers
    synced_given r other numbers begins none =
        let acknowledged = begins.acknowledged in
        let given = begins.given in
        let long : length numbers ≡ 0 = ap length none in
        record {
          up = subst (CountUp r.acknowledged) (sym none) tt;
          given = omega (arith, given, long);
          acknowledged = omega (arith, acknowledged);
          least = omega (arith, acknowledged, given);
          few = omega (arith, acknowledged, given);
        }

    synced_stands : (v : Viewer) (how : How) (joined last from : ℕ) (base : Option Base) (link : LinkTalk) → Reads v.worlds v.replica link [] → StandsIn (after_frame v (ToJoin how) (Sync joined last from base)) link
    synced_stands v Fresh joined last from base link reads = go_on_reads v [] Begins link (λ more r. r) reads
    synced_stands v Whole joined last from base link reads = go_on_reads v [] Begins link (λ more r. r) reads
    synced_stands v Resume joined last from base link reads = go_on_reads (after_giving v) (unsent v.replica) (TellsText _) link (λ more r. r) (reads_given v.worlds v.replica link reads)

    -- the Sync answers the view's own JOIN
    sync_hears : (v : Viewer) (how : How) (joined last from : ℕ) (base : Option Base) (link : LinkTalk) (given : List (List ℕ)) → Awaits how v.worlds v.replica link [] → link.heard ≡ [] → ComesFrom given link.sent
        → Served log (map (whole client_at) given) (Sync joined last from base ∷ []) → IsHonestBase m log base → CountsEvents v.replica (Some (Sync joined last from base))
        → let t = taken m v.replica (Sync joined last from base) in StandsIn (phase_behind_frame (with_taken v t) (ToJoin how) (Sync joined last from base) t.fault) (heard_more link (Some (Sync joined last from base)))
    sync_hears v how joined last from base link given awaits nothing comes served honest counts =
        let frame = Sync joined last from base in
        let t = taken m v.replica frame in
        let begins = begins_served log (map (whole client_at) given) joined last from base [] served in
        let own = awaits.knows.follows in
        let sent = sym (append-nil (map (whole client_at) link.sent)) ∙ awaits.sent in
        let first = first_sent begins.session begins.view begins.want begins.more awaits.others (Some (join_frame m v.replica how)) given link.sent comes begins.is sent in
        let want = same_want (record { 0 = m.session }) begins.session v.replica.view begins.view (join_want m v.replica how) begins.want first in
        let began = sync_begins m laws log v.replica how joined last from begins.time base legal awaits.awaited (subst (λ (w : Want). BeginsFor log w begins.time from base) (sym want) begins.answers.begins) counts.0 counts.1 honest (may_join v.replica how own) in
        let events = begins_events v.replica t (sync_answers m v.replica v.replica.awaited last from base) began.fine in
        let numbers : numbers_on link [] ≡ [] = append-nil (numbers_in (map (whole client_at) link.sent)) ∙ ap numbers_in sent ∙ awaits.none in
        subst (λ (found : Option ReplicaFault). StandsIn (phase_behind_frame (with_taken v t) (ToJoin how) frame found) (heard_more link (Some frame))) (sym began.fine)
        (synced_stands (with_taken v t) how joined last from base (heard_more link (Some frame)) (record {
          same = awaits.knows.same;
          its = (taken_keeps m v.replica frame).view ∙ awaits.knows.its;
          joined = joined;
          last = last;
          from = from;
          base = base;
          entry = record { seq = joined; time = begins.time; view = begins.view; what = what.Join };
          behind = [];
          heard = ap (λ (fs : List (Option ServerFrame)). fs ++ Some frame ∷ []) nothing;
          by = begins.answers.entry;
          stands = began.stands;
          none = tt;
          start = v.replica.acknowledged;
          has = synced_given v.replica t.replica (numbers_on link []) events numbers;
        }))

    -- a refusal is heard, and nothing after it
    refusal_hears : (v : Viewer) (how : How) (about code kept more : ℕ) (of_snap of_join : Bool) (other : RealReplica) (link : LinkTalk) → Awaits how v.worlds v.replica link [] → NoSync (heard_more link (Some (Refused about code kept more))).heard
        → let t = (if of_snap then takes v.replica else if of_join then faults other (fault.Refused about code kept) else faults v.replica (fault.Refused about code kept)) in
        StandsIn (phase_behind_frame (with_taken v t) (ToJoin how) (Refused about code kept more) t.fault) (heard_more link (Some (Refused about code kept more)))
    refusal_hears v how about code kept more true of_join other link awaits heard =
        go_on_awaits v how (heard_more link (Some (Refused about code kept more))) (record { knows = awaits.knows; awaited = awaits.awaited; others = awaits.others; sent = awaits.sent; none = awaits.none; heard = heard })
    refusal_hears v how about code kept more false true other link awaits heard = tt
    refusal_hears v how about code kept more false false other link awaits heard = tt

    abbrev JoinHears : Viewer → How → ServerFrame → LinkTalk → RealWorlds → Type 0
    JoinHears v how frame link w = let t = taken w v.replica frame in StandsIn (phase_behind_frame (with_taken v t) (ToJoin how) frame t.fault) (heard_more link (Some frame))

    first_hears : (v : Viewer) (how : How) (frame : ServerFrame) (link : LinkTalk) (given : List (List ℕ)) → Awaits how v.worlds v.replica link [] → link.heard ≡ [] → ComesFrom given link.sent
        → Served log (map (whole client_at) given) (frame ∷ []) → BeginsHonestly m log (frame ∷ []) → CountsEvents v.replica (Some frame) → JoinHears v how frame link m
    first_hears v how (Sync joined last from base) link given awaits nothing comes served honest counts = sync_hears v how joined last from base link given awaits nothing comes served honest counts
    first_hears v how (Refused about code kept more) link given awaits nothing comes served honest counts =
        refusal_hears v how about code kept more (about == SNAP_TAG) (about == JOIN_TAG) (record v.replica { awaited = None }) link awaits (inr (about, code, kept, more, ap (λ (fs : List (Option ServerFrame)). fs ++ Some (Refused about code kept more) ∷ []) nothing))
    first_hears v how (Recv entry) link given awaits nothing comes served honest counts = absurd (begins_link log (map (whole client_at) given) (Recv entry) [] served)
    first_hears v how (Tick time) link given awaits nothing comes served honest counts = absurd (begins_link log (map (whole client_at) given) (Tick time) [] served)
    first_hears v how (Done number seq time) link given awaits nothing comes served honest counts = absurd (begins_link log (map (whole client_at) given) (Done number seq time) [] served)
    first_hears v how (Snapped time) link given awaits nothing comes served honest counts = absurd (begins_link log (map (whole client_at) given) (Snapped time) [] served)
    first_hears v how Alive link given awaits nothing comes served honest counts = absurd (begins_link log (map (whole client_at) given) Alive [] served)

    -- nothing comes after a refusal that came first
    none_after : (about code kept more : ℕ) (frame : ServerFrame) (front : List ServerFrame) (given : List (Option ClientFrame)) → map Some front ≡ Some (Refused about code kept more) ∷ [] → Served log given (front ++ frame ∷ []) → ⊥
    none_after about code kept more frame front given before served =
        let is = some_alike front (Refused about code kept more ∷ []) before in
        let rest : frame ∷ [] ≡ [] = begins_link log given (Refused about code kept more) (frame ∷ []) (subst (λ (fs : List ServerFrame). Served log given (fs ++ frame ∷ [])) is served) in
        absurd cc

    none_before : (front : List ServerFrame) → map Some front ≡ [] → front ≡ []
    none_before front is = some_alike front [] is

    joins_found : (v : Viewer) (how : How) (found : Option ServerFrame) (link : LinkTalk) → Awaits how v.worlds v.replica link [] → IsAnswered m log (heard_more link found) → CountsEvents v.replica found → StandsIn (reads v (ToJoin how) found) (heard_more link found)
    joins_found v how found link awaits answered counts =
        let it = read_last answered.frames link.heard found answered.heard in
        let served = subst (Served log (map (whole client_at) answered.given)) it.all answered.served in
        let honest = subst (BeginsHonestly m log) it.all answered.honest in
        subst (λ (f : Option ServerFrame). StandsIn (reads v (ToJoin how) f) (heard_more link f)) (sym it.is)
        (subst (JoinHears v how it.frame link) (sym awaits.knows.same)
        (elim awaits.heard [
          | inl nothing ↦
              let none = none_before it.front (it.before ∙ nothing) in
              first_hears v how it.frame link answered.given awaits nothing answered.comes
              (subst (λ (fs : List ServerFrame). Served log (map (whole client_at) answered.given) (fs ++ it.frame ∷ [])) none served)
              (subst (λ (fs : List ServerFrame). BeginsHonestly m log (fs ++ it.frame ∷ [])) none honest)
              (subst (CountsEvents v.replica) it.is counts)
          | inr (about, code, kept, more, refused) ↦ absurd (none_after about code kept more it.frame it.front (map (whole client_at) answered.given) (it.before ∙ refused) served)
        ]))

    found_stands : (v : Viewer) (aim : Aim) (found : Option ServerFrame) (link : LinkTalk) → StandsFor aim v.worlds v.replica link [] → IsAnswered m log (heard_more link found) → CountsEvents v.replica found → StandsIn (reads v aim found) (heard_more link found)
    found_stands v (ToJoin how) found link stands answered counts = joins_found v how found link stands answered counts
    found_stands v (ToReach time) found link stands answered counts = reads_found v (ToReach time) found link tt stands answered
    found_stands v ToSettle found link stands answered counts = reads_found v ToSettle found link tt stands answered
    found_stands v ToCatchUp found link stands answered counts = reads_found v ToCatchUp found link tt stands answered
    found_stands v ToSnap found link stands answered counts = reads_found v ToSnap found link tt stands answered
    found_stands v (ToSee at) found link stands answered counts = reads_found v (ToSee at) found link tt stands answered

    -- ---- a step

    go_on_stands : (v : Viewer) (aim : Aim) (link : LinkTalk) → StandsFor aim v.worlds v.replica link [] → StandsIn (go_on v [] (Receives aim)) link
    go_on_stands v (ToJoin how) link stands = go_on_awaits v how link stands
    go_on_stands v (ToReach time) link stands = go_on_reads v [] (Receives (ToReach time)) link (λ more r. r) stands
    go_on_stands v ToSettle link stands = go_on_reads v [] (Receives ToSettle) link (λ more r. r) stands
    go_on_stands v ToCatchUp link stands = go_on_reads v [] (Receives ToCatchUp) link (λ more r. r) stands
    go_on_stands v ToSnap link stands = go_on_reads v [] (Receives ToSnap) link (λ more r. r) stands
    go_on_stands v (ToSee at) link stands = go_on_reads v [] (Receives (ToSee at)) link (λ more r. r) stands

    -- what this step adds to the link in use
    abbrev pub behind_step : LinkTalk → Step → LinkTalk
    behind_step link (Connects address) = new_link
    behind_step link (Sends bytes) = record link { sent = link.sent ++ bytes ∷ [] }
    behind_step link (Hears (said.Frame bytes)) = heard_more link (whole server_at bytes)
    behind_step link step = link

    abbrev pub IsAnsweredAt : LinkTalk → Step → Type 0
    IsAnsweredAt link (Hears (said.Frame bytes)) = IsAnswered m log (heard_more link (whole server_at bytes))
    IsAnsweredAt link step = Unit {0}

    abbrev pub CountsAt : Phase → Step → Type 0
    CountsAt (Receiving v aim) (Hears (said.Frame bytes)) = CountsEvents v.replica (whole server_at bytes)
    CountsAt phase step = Unit {0}

    pub hearing_stands : (v : Viewer) (aim : Aim) (what : Heard) (next : Phase) (link : LinkTalk) → StandsFor aim v.worlds v.replica link [] → IsAnsweredAt link (Hears what) → CountsAt (Receiving v aim) (Hears what) → Hearing v aim what next
        → StandsIn next (behind_step link (Hears what))
    hearing_stands v aim (said.Frame bytes) next link stands answered counts is =
        subst (λ (p : Phase). StandsIn p (heard_more link (whole server_at bytes))) (sym is) (found_stands (heard_frame v) aim (whole server_at bytes) link stands answered counts)
    hearing_stands v aim said.Quiet next link stands answered counts is =
        subst (λ (p : Phase). StandsIn p link) (sym is) (if_phase (v.quiets + 1 == most_quiets) (Over ending.Ended) _ link tt (go_on_stands (heard_quiet v) aim link stands))
    hearing_stands v aim said.End next link stands answered counts is = subst (λ (p : Phase). StandsIn p link) (sym is) tt
    hearing_stands v aim said.Failed next link stands answered counts is = absurd is
    hearing_stands v aim said.WantOfMemory next link stands answered counts is = absurd is

    -- a frame was sent
    sent_frame : (link : LinkTalk) (frame : ClientFrame) (frames : List ClientFrame) (bytes : List ℕ) → bytes ≡ client_spelling frame → IsClientFrame frame
        → map (whole client_at) (link.sent ++ bytes ∷ []) ++ map Some frames ≡ map (whole client_at) link.sent ++ map Some (frame ∷ frames)
    sent_frame link frame frames bytes is fits =
        let read : whole client_at bytes ≡ Some frame = ap (whole client_at) is ∙ whole_again client_codec frame fits in
        ap (λ (fs : List (Option ClientFrame)). fs ++ map Some frames) (map-append (whole client_at) link.sent (bytes ∷ []))
        ∙ append_assoc (map (whole client_at) link.sent) (whole client_at bytes ∷ []) (map Some frames)
        ∙ ap (λ (f : Option ClientFrame). map (whole client_at) link.sent ++ f ∷ map Some frames) read

    sent_numbers : (link : LinkTalk) (frame : ClientFrame) (frames : List ClientFrame) (bytes : List ℕ) → bytes ≡ client_spelling frame → IsClientFrame frame
        → numbers_on link (frame ∷ frames) ≡ numbers_on (record link { sent = link.sent ++ bytes ∷ [] }) frames
    sent_numbers link frame frames bytes is fits =
        sym (numbers-append (map (whole client_at) link.sent) (map Some (frame ∷ frames)))
        ∙ ap numbers_in (sym (sent_frame link frame frames bytes is fits))
        ∙ numbers-append (map (whole client_at) (link.sent ++ bytes ∷ [])) (map Some frames)

    sends_read : (own : RealWorlds) (r : RealReplica) (link : LinkTalk) (frame : ClientFrame) (frames : List ClientFrame) (bytes : List ℕ) → bytes ≡ client_spelling frame → IsClientFrame frame → Reads own r link (frame ∷ frames)
        → Reads own r (record link { sent = link.sent ++ bytes ∷ [] }) frames
    sends_read own r link frame frames bytes is fits reads = record {
      same = reads.same;
      its = reads.its;
      joined = reads.joined;
      last = reads.last;
      from = reads.from;
      base = reads.base;
      entry = reads.entry;
      behind = reads.behind;
      heard = reads.heard;
      by = reads.by;
      stands = reads.stands;
      none = reads.none;
      start = reads.start;
      has = subst (HasGiven r reads.start (dones reads.behind)) (sent_numbers link frame frames bytes is fits) reads.has;
    }

    sends_for : (aim : Aim) (own : RealWorlds) (r : RealReplica) (link : LinkTalk) (frame : ClientFrame) (frames : List ClientFrame) (bytes : List ℕ) → bytes ≡ client_spelling frame → IsClientFrame frame → StandsFor aim own r link (frame ∷ frames)
        → StandsFor aim own r (record link { sent = link.sent ++ bytes ∷ [] }) frames
    sends_for (ToJoin how) own r link frame frames bytes is fits awaits =
        record { knows = awaits.knows; awaited = awaits.awaited; others = awaits.others; sent = sent_frame link frame frames bytes is fits ∙ awaits.sent; none = awaits.none; heard = awaits.heard }
    sends_for (ToReach time) own r link frame frames bytes is fits reads = sends_read own r link frame frames bytes is fits reads
    sends_for ToSettle own r link frame frames bytes is fits reads = sends_read own r link frame frames bytes is fits reads
    sends_for ToCatchUp own r link frame frames bytes is fits reads = sends_read own r link frame frames bytes is fits reads
    sends_for ToSnap own r link frame frames bytes is fits reads = sends_read own r link frame frames bytes is fits reads
    sends_for (ToSee at) own r link frame frames bytes is fits reads = sends_read own r link frame frames bytes is fits reads

    pub sends_to : (task : Task) (own : RealWorlds) (r : RealReplica) (link : LinkTalk) (frame : ClientFrame) (frames : List ClientFrame) (bytes : List ℕ) → bytes ≡ client_spelling frame → IsClientFrame frame → StandsTo task own r link (frame ∷ frames)
        → StandsTo task own r (record link { sent = link.sent ++ bytes ∷ [] }) frames
    sends_to (Receives aim) own r link frame frames bytes is fits stands = sends_for aim own r link frame frames bytes is fits stands
    sends_to Begins own r link frame frames bytes is fits reads = sends_read own r link frame frames bytes is fits reads
    sends_to (TellsText text) own r link frame frames bytes is fits reads = sends_read own r link frame frames bytes is fits reads
    sends_to Leaves own r link frame frames bytes is fits stands = stands

    -- the view sends its JOIN first
    pub enters : (v : Viewer) (how : How) → Knows v.worlds v.replica → StandsIn (enter_session v how) new_link
    enters v how knows = record {
      knows = record { same = knows.same; its = knows.its; follows = record { whole = knows.follows.whole; valid = knows.follows.valid; follows = knows.follows.follows; counted = knows.follows.counted } };
      awaited = refl;
      others = [];
      sent = ap (λ (w : RealWorlds). Some (join_frame w v.replica how) ∷ []) knows.same;
      none = refl;
      heard = inl refl;
    }

    at_next : (next to : Phase) (link : LinkTalk) → next ≡ to → StandsIn to link → StandsIn next link
    at_next next to link is stands = subst (λ (p : Phase). StandsIn p link) (sym is) stands

    -- its last line is not to be printed
    abbrev IsNotLast : Phase → Type 0
    IsNotLast (PrintingLast text) = ⊥
    IsNotLast phase = Unit {0}

    move_stands : (from : Phase) (step : Step) (next : Phase) (link : LinkTalk) → IsNotLast from → StandsIn from link → IsAnsweredAt link step → CountsAt from step → Moves from step next → StandsIn next (behind_step link step)
    move_stands (Connecting v how) (Connects address) next link other stands answered counts moves = at_next next (enter_session v how) new_link moves.1 (enters v how stands)
    move_stands (Connecting v how) step next link other stands answered counts moves = absurd moves
    move_stands (Sending v frame frames task) (Sends bytes) next link other stands answered counts moves =
        at_next next _ (record link { sent = link.sent ++ bytes ∷ [] }) moves.3
        (send_stands (record v { receives = 0 }) frames task (record link { sent = link.sent ++ bytes ∷ [] }) (sends_to task v.worlds v.replica link frame frames bytes moves.0 moves.1 stands))
    move_stands (Sending v frame frames task) step next link other stands answered counts moves = absurd moves
    move_stands (Receiving v aim) (Hears what) next link other stands answered counts moves = hearing_stands v aim what next link stands answered counts moves
    move_stands (Receiving v aim) step next link other stands answered counts moves = absurd moves
    move_stands (Printing v text) (Prints piece) next link other stands answered counts moves = at_next next (run v v.lines) link moves.1 (run_stands laws legal v v.lines link stands)
    move_stands (Printing v text) step next link other stands answered counts moves = absurd moves
    move_stands (Leaving v text) (Prints piece) next link other stands answered counts moves = at_next next _ link moves.1 stands
    move_stands (Leaving v text) step next link other stands answered counts moves = absurd moves
    move_stands (PrintingLast text) step next link other stands answered counts moves = absurd other
    move_stands (Returning v how) Returns next link other stands answered counts moves = at_next next (Connecting v how) link moves stands
    move_stands (Returning v how) step next link other stands answered counts moves = absurd moves
    move_stands (Over end) step next link other stands answered counts moves = absurd moves

    -- ---- a walk

    pub first_answered : (link : LinkTalk) (step : Step) (steps : List Step) → AreAnswered m log link (step ∷ steps) → IsAnsweredAt link step × AreAnswered m log (behind_step link step) steps
    first_answered link (Connects address) steps answered = (tt, answered)
    first_answered link (Sends bytes) steps answered = (tt, answered)
    first_answered link (Hears (said.Frame bytes)) steps answered = answered
    first_answered link (Hears said.Quiet) steps answered = (tt, answered)
    first_answered link (Hears said.End) steps answered = (tt, answered)
    first_answered link (Hears said.Failed) steps answered = (tt, answered)
    first_answered link (Hears said.WantOfMemory) steps answered = (tt, answered)
    first_answered link step steps answered = (tt, answered)

    first_counts : (from : Phase) (step : Step) (steps : List Step) → SyncsCountEvents from (step ∷ steps) → CountsAt from step
    first_counts (Receiving v aim) (Hears (said.Frame bytes)) steps counts = counts [] steps v aim bytes refl refl
    first_counts from step steps counts = tt

    others_count : (from : Phase) (step : Step) (next : Phase) (steps : List Step) → Moves from step next → SyncsCountEvents from (step ∷ steps) → SyncsCountEvents next steps
    others_count from step next steps moves counts = λ front back v aim bytes is walks. counts (step ∷ front) back v aim bytes (ap (λ (more : List Step). step ∷ more) is) (next, moves, walks)

    is_peer : (from : Phase) (link : LinkTalk) → StandsIn from link → from ≡ Over ending.Peer → ⊥
    is_peer from link stands is = subst (λ (p : Phase). StandsIn p link) is stands

    done_no_peer : (steps : List Step) → Walks (Over ending.Done) steps (Over ending.Peer) → ⊥
    done_no_peer [] is = absurd cc
    done_no_peer (step ∷ steps) (next, moves, walks) = moves

    never_by_peer : (from : Phase) (steps : List Step) (link : LinkTalk) → StandsIn from link → AreAnswered m log link steps → SyncsCountEvents from steps → Walks from steps (Over ending.Peer) → ⊥
    never_by_peer from [] link stands answered counts walks = is_peer from link stands walks
    never_by_peer (PrintingLast text) (Prints piece ∷ steps) link stands answered counts (next, moves, walks) = done_no_peer steps (subst (λ (p : Phase). Walks p steps (Over ending.Peer)) moves.1 walks)
    never_by_peer (PrintingLast text) (step ∷ steps) link stands answered counts (next, moves, walks) = absurd moves
    never_by_peer from (step ∷ steps) link stands answered counts (next, moves, walks) =
        let first = first_answered link step steps answered in
        never_by_peer next steps (behind_step link step) (move_stands from step next link tt stands first.0 (first_counts from step steps counts) moves) first.1 (others_count from step next steps moves counts) walks

    -- a view whose links are answered never ends by its peer
    pub joins_never_by_peer : (v : Viewer) (how : How) (steps : List Step) → Knows v.worlds v.replica → AreAnswered m log new_link steps → SyncsCountEvents (Connecting v how) steps → Walks (Connecting v how) steps (Over ending.Peer) → ⊥
    joins_never_by_peer v how steps knows answered counts walks = never_by_peer (Connecting v how) steps new_link knows answered counts walks
