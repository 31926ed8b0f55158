-- A view stands to the log behind each step as before it.
use Rattle.std.proofs.Common.{◌≡◌, inl, inr, ◌<◌, ◌==◌, if◌then◌else◌, ℕ, Bool, true, false, List, [], ◌∷◌, ◌++◌, map, Option, Some, None, refl, sym, ap, subst, arith, ◌∙◌}
use Rattle.std.specs.Prelude.{◌⊎◌, nat_le, nat_lt}
use Rattle.std.specs.List.{AllByRecursion}
use Rattle.std.proofs.lemmas.Bool.Decides.{nat_tests}
use Rattle.byte_fields.specs.Fields.{whole}
use Rattle.byte_fields.proofs.Codecs.{whole_again}
use Rattle.tea_base.specs.declared.entry.Entry.{Entry}
use Rattle.tea_base.specs.Legal.{IsLegal}
use Rattle.tea_base.specs.Limits.{time_limit}
use Rattle.tea_io.specs.declared.link.Heard.{Heard}
use Rattle.tea_io.specs.declared.link.Heard.TheVariants as said
use Rattle.tea_io.specs.Links.{most_quiets}
use Rattle.wire_frames.specs.Frames.{IsClientFrame}
use Rattle.wire_frames.specs.Reading.{client_at, server_at}
use Rattle.wire_frames.specs.Spelling.{client_spelling}
use Rattle.wire_frames.specs.Served.{BeginsFor, Place, Served, Streams, place_after}
use Rattle.wire_frames.specs.declared.start.Base.{Base}
use Rattle.wire_frames.specs.declared.frame.ClientFrame.{ClientFrame}
use Rattle.wire_frames.specs.declared.frame.ClientFrame.TheVariants as client
use Rattle.wire_frames.specs.declared.frame.ServerFrame.{ServerFrame}
use Rattle.wire_frames.specs.declared.frame.ServerFrame.TheVariants.{Sync, Recv, Tick, Done, Snapped, Refused, Alive}
use Rattle.wire_frames.specs.declared.tags.TheConstants.{JOIN_TAG, SNAP_TAG}
use Rattle.wire_frames.proofs.ClientCodec.{client_codec}
use Rattle.model_value.specs.Payload.{payload_spelling}
use Rattle.replica_plain.specs.declared.how.How.{How}
use Rattle.replica_plain.specs.declared.how.How.TheVariants.{Fresh, Whole, Resume}
use Rattle.replica_plain.specs.declared.fault.ReplicaFault.{ReplicaFault}
use Rattle.replica_plain.specs.declared.fault.ReplicaFault.TheVariants as fault
use Rattle.replica_plain.specs.Worlds.{AreWorlds}
use Rattle.replica_plain.specs.PlainReplica.{published_count}
use Rattle.replica_plain.specs.Calls.{join_frame, join_want, publishes, unsent}
use Rattle.replica_plain.specs.Taking.{taken, faults, takes}
use Rattle.replica_plain.specs.Following.{FollowsLog, IsHonestBase, MayJoin}
use Rattle.replica_plain.proofs.FrameSteps.{StandsAt, behind_frame}
use Rattle.replica_plain.proofs.SyncSteps.{SyncBegins, sync_begins}
use Rattle.run_steps.specs.Steps.{Step, Prints, Connects, Returns, Hears, Sends}
use Rattle.view_script.specs.PlainLine.{PlainLine, Publish, Watch, Wait, WaitFor, Settle, Snap, Cut, Quit, Mark, Vote, Show}
use Rattle.view_shell.specs.declared.ending.ViewEnd.{ViewEnd}
use Rattle.view_shell.specs.declared.ending.ViewEnd.TheVariants as ending
use Rattle.view_shell.specs.Phases.{Viewer, Phase, Aim, Task, ToJoin, ToReach, ToSettle, ToCatchUp, ToSnap, ToSee, Receives, Begins, TellsText, Leaves, Connecting, Sending, Receiving, Printing, Leaving, PrintingLast, Returning, Over, Hearing, IsReadAsWorld, Moves, Walks, after_frame, after_giving, after_publish, alive, begin_task, enter_session, go_on, has_caught_up, heard_frame, heard_quiet, leave_session, most_receives, phase_behind_frame, quiet, reads, receive, rested, run, send_all, settle_on, show_world, with_lines, with_taken, time_after, after_entry, after_vote, vote_by, vote_spelling}
use Rattle.view_shell.proofs.Keeping.{taken_keeps}
use Rattle.view_follows.specs.Links.{BeginsHonestly, IsServedBy, LinkTalk, heard_in, heard_then, links_in, sent_in}
use Rattle.view_follows.specs.Offers.{IsOfFollower, OffersFollow}
use Rattle.view_follows.proofs.Offering.{IsGoodFrame}
use Rattle.view_follows.proofs.SnapSpellings.{same_bytes, same_time}
use Rattle.view_follows.proofs.Stands.{AreOwnFrames, AwaitsSync, IsOwnFrame, KnowsLog, ReadsLog, RealReplica, RealWorlds, StandsFor, StandsIn, StandsTo, TellsReplay, knows_read, reads_given, reads_published, reads_rested, reads_told, rested_replays, own_behind, own_snap, own_unsent}

-- ---- one of two phases

if_phase : (m : RealWorlds) (log : List Entry) (view : ℕ) (test : Bool) (p q : Phase) (heard : List (Option ServerFrame)) → StandsIn m log view p heard → StandsIn m log view q heard → StandsIn m log view (if test then p else q) heard
if_phase m log view true p q heard first second = first
if_phase m log view false p q heard first second = second

module _ (m : RealWorlds) (laws : AreWorlds m) (log : List Entry) (legal : IsLegal log) (view : ℕ) where
  -- ---- what is done next

  reach_stands : (v : Viewer) (time : ℕ) (heard : List (Option ServerFrame)) → ReadsLog m log view v.worlds v.replica heard → StandsIn m log view (receive v (ToReach time)) heard
  reach_stands v time heard reads = if_phase m log view (nat_le time v.replica.world.time) _ _ heard (reads_told m log view v.worlds v.replica heard reads) reads

  settle_stands : (v : Viewer) (outbox : List (List ℕ)) (heard : List (Option ServerFrame)) → ReadsLog m log view v.worlds v.replica heard → StandsIn m log view (settle_on v outbox) heard
  settle_stands v [] heard reads = reads_told m log view v.worlds v.replica heard reads
  settle_stands v (payload ∷ rest) heard reads = reads

  receive_stands : (v : Viewer) (aim : Aim) (heard : List (Option ServerFrame)) → StandsFor m log view aim v.worlds v.replica heard → StandsIn m log view (receive v aim) heard
  receive_stands v (ToJoin how) heard stands = stands
  receive_stands v (ToReach time) heard stands = reach_stands v time heard stands
  receive_stands v ToSettle heard stands = settle_stands v v.replica.outbox heard stands
  receive_stands v ToCatchUp heard stands = if_phase m log view (has_caught_up v.replica) _ _ heard (reads_told m log view v.worlds v.replica heard stands) stands
  receive_stands v ToSnap heard stands = stands
  receive_stands v (ToSee at) heard stands = stands

  begin_stands : (v : Viewer) (task : Task) (heard : List (Option ServerFrame)) → StandsTo m log view task v.worlds v.replica heard → StandsIn m log view (begin_task v task) heard
  begin_stands v (Receives aim) heard stands = receive_stands v aim heard stands
  begin_stands v Begins heard stands = stands
  begin_stands v (TellsText text) heard stands = reads_told m log view v.worlds v.replica heard stands
  begin_stands v Leaves heard stands = record { replica = v.replica; has = stands; told = refl }

  send_stands : (v : Viewer) (frames : List ClientFrame) (task : Task) (heard : List (Option ServerFrame)) → StandsTo m log view task v.worlds v.replica heard → AreOwnFrames m log v.worlds v.replica frames → StandsIn m log view (send_all v frames task) heard
  send_stands v [] task heard stands own = begin_stands v task heard stands
  send_stands v (frame ∷ frames) task heard stands own = (stands, own)

  leave_stands : (v : Viewer) (heard : List (Option ServerFrame)) → ReadsLog m log view v.worlds v.replica heard → StandsIn m log view (leave_session v) heard
  unfolding leave_session
  leave_stands v heard reads = rested_replays m log view laws legal v.worlds v.replica heard reads

  vote_stands : (has : Bool) (v : Viewer) (at : ℕ) (heard : List (Option ServerFrame)) → ReadsLog m log view v.worlds v.replica heard → StandsIn m log view (vote_by has v at) heard
  vote_stands true v at heard reads = reads_told m log view v.worlds v.replica heard reads
  vote_stands false v at heard reads = reads

  show_stands : (v : Viewer) (heard : List (Option ServerFrame)) → ReadsLog m log view v.worlds v.replica heard → StandsIn m log view (show_world v) heard
  unfolding show_world
  show_stands v heard reads = reads_told m log view v.worlds (rested v.worlds v.replica) heard (reads_rested m log view laws legal v.worlds v.replica heard reads)

  run_stands : (v : Viewer) (lines : List PlainLine) (heard : List (Option ServerFrame)) → ReadsLog m log view v.worlds v.replica heard → StandsIn m log view (run v lines) heard
  run_stands v [] heard reads = leave_stands v heard reads
  run_stands v (Publish scope event value ∷ rest) heard reads =
      let payload = payload_spelling (record { scope = scope; event = event; value = value }) in
      let w = after_publish (with_lines v rest) payload in
      send_stands (after_giving w) (unsent w.replica) (Receives ToCatchUp) heard
      (reads_given m log view v.worlds (publishes v.replica payload) heard (reads_published m log view v.worlds v.replica heard payload reads)) (own_unsent m log view v.worlds (after_giving w).replica w.replica)
  run_stands v (Watch scope event handling ∷ rest) heard reads = reads_told m log view v.worlds v.replica heard reads
  run_stands v (Wait time ∷ rest) heard reads = reach_stands (with_lines v rest) time heard reads
  run_stands v (WaitFor span ∷ rest) heard reads = reach_stands (with_lines v rest) (time_after v.replica.world.time span) heard reads
  run_stands v (Settle ∷ rest) heard reads =
      send_stands (after_giving (with_lines v rest)) (unsent v.replica) (Receives ToSettle) heard (reads_given m log view v.worlds v.replica heard reads) (own_unsent m log view v.worlds (after_giving v).replica v.replica)
  run_stands v (Snap ∷ rest) heard reads = (reads, (own_snap m log view v.worlds v.replica heard reads, tt))
  run_stands v (Cut ∷ rest) heard reads = knows_read m log view v.worlds v.replica heard reads
  run_stands v (Quit ∷ rest) heard reads = leave_stands (with_lines v rest) heard reads
  run_stands v (Mark word ∷ rest) heard reads = reads_told m log view v.worlds v.replica heard reads
  run_stands v (Vote at ∷ rest) heard reads = vote_stands (nat_le at v.replica.seen) (with_lines v rest) at heard reads
  run_stands v (Show ∷ rest) heard reads = show_stands (with_lines v rest) heard reads

  go_on_stands : (v : Viewer) (frames : List ClientFrame) (task : Task) (heard : List (Option ServerFrame)) → StandsTo m log view task v.worlds v.replica heard → AreOwnFrames m log v.worlds v.replica frames → StandsIn m log view (go_on v frames task) heard
  go_on_stands v frames task heard stands own = send_stands v (alive v ++ frames) task heard stands (own_behind m log view v.worlds v.replica (v.receives == most_receives) frames own)

  -- ---- a frame is heard behind the Sync

  abbrev IsNoJoin : Aim → Type 0
  IsNoJoin (ToJoin how) = ⊥
  IsNoJoin (ToReach time) = Unit {0}
  IsNoJoin ToSettle = Unit {0}
  IsNoJoin ToCatchUp = Unit {0}
  IsNoJoin ToSnap = Unit {0}
  IsNoJoin (ToSee at) = Unit {0}

  entry_stands : (has : Bool) (v : Viewer) (at : ℕ) (heard : List (Option ServerFrame)) → ReadsLog m log view v.worlds v.replica heard → StandsIn m log view (after_entry has v at) heard
  entry_stands true v at heard reads =
      let payload = vote_spelling at v.replica.world in
      let w = after_vote v at in
      go_on_stands (after_giving w) (unsent w.replica) (TellsText _) heard
      (reads_given m log view v.worlds (publishes v.replica payload) heard (reads_published m log view v.worlds v.replica heard payload reads)) (own_unsent m log view v.worlds (after_giving w).replica w.replica)
  entry_stands false v at heard reads = go_on_stands v [] (Receives (ToSee at)) heard reads tt

  after_frame_stands : (v : Viewer) (aim : Aim) (frame : ServerFrame) (heard : List (Option ServerFrame)) → IsNoJoin aim → ReadsLog m log view v.worlds v.replica heard → StandsIn m log view (after_frame v aim frame) heard
  after_frame_stands v (ToJoin how) frame heard is reads = absurd is
  after_frame_stands v (ToReach time) frame heard is reads = go_on_stands v [] (Receives (ToReach time)) heard reads tt
  after_frame_stands v ToSettle frame heard is reads = go_on_stands v [] (Receives ToSettle) heard reads tt
  after_frame_stands v ToCatchUp frame heard is reads = go_on_stands v [] (Receives ToCatchUp) heard reads tt
  after_frame_stands v (ToSee at) frame heard is reads = entry_stands (nat_le at v.replica.seen) v at heard reads
  after_frame_stands v ToSnap (Snapped time) heard is reads = go_on_stands v [] (TellsText _) heard reads tt
  after_frame_stands v ToSnap (Refused about code kept more) heard is reads = go_on_stands v [] (TellsText _) heard reads tt
  after_frame_stands v ToSnap frame heard is reads = go_on_stands v [] (Receives ToSnap) heard reads tt

  no_base_stands : (v : Viewer) (aim : Aim) (heard : List (Option ServerFrame)) → IsNoJoin aim → StandsIn m log view (phase_behind_frame v aim Alive (Some fault.BadBase)) heard
  no_base_stands v (ToJoin how) heard is = absurd is
  no_base_stands v (ToReach time) heard is = tt
  no_base_stands v ToSettle heard is = tt
  no_base_stands v ToCatchUp heard is = tt
  no_base_stands v ToSnap heard is = tt
  no_base_stands v (ToSee at) heard is = tt

  behind_fault : (v : Viewer) (aim : Aim) (frame : ServerFrame) (found : Option ReplicaFault) (heard : List (Option ServerFrame)) → IsNoJoin aim → ReadsLog m log view v.worlds v.replica heard → StandsIn m log view (phase_behind_frame v aim frame found) heard
  behind_fault v aim frame None heard is reads = after_frame_stands v aim frame heard is reads
  behind_fault v aim frame (Some (fault.Refused about code kept)) heard is reads = tt
  behind_fault v aim frame (Some fault.BadBase) heard is reads = no_base_stands v aim heard is
  behind_fault v aim frame (Some fault.Unasked) heard is reads = tt
  behind_fault v aim frame (Some (fault.OutOfOrder expected found)) heard is reads = tt
  behind_fault v aim frame (Some (fault.Back time)) heard is reads = tt
  behind_fault v aim frame (Some fault.Broken) heard is reads = tt
  behind_fault v aim frame (Some fault.WantOfMemory) heard is reads = tt

  -- ---- the Sync is heard

  abbrev IsOutOfOrder : Option ReplicaFault → Type 0
  IsOutOfOrder (Some (fault.OutOfOrder expected found)) = Unit {0}
  IsOutOfOrder found = ⊥

  order_stands : (v : Viewer) (aim : Aim) (frame : ServerFrame) (found : Option ReplicaFault) (heard : List (Option ServerFrame)) → IsOutOfOrder found → StandsIn m log view (phase_behind_frame v aim frame found) heard
  order_stands v aim frame None heard is = absurd is
  order_stands v aim frame (Some (fault.OutOfOrder expected found)) heard is = tt
  order_stands v aim frame (Some other) heard is = absurd is

  -- it is taken, or it knows of too many events or of too few
  sync_or_order : (r : RealReplica) (how : How) (joined last from time : ℕ) (base : Option Base) → r.awaited ≡ Some how → BeginsFor log (join_want m r how) time from base → IsHonestBase m log base → MayJoin m log r how
      → (above below : Bool) → nat_lt (published_count r) last ≡ above → nat_lt last r.acknowledged ≡ below
      → SyncBegins m log from time (taken m r (Sync joined last from base)) ⊎ IsOutOfOrder (taken m r (Sync joined last from base)).fault
  sync_or_order r how joined last from time base awaited begins honest may true below is_above is_below = inr (rw (awaited, is_above) tt)
  sync_or_order r how joined last from time base awaited begins honest may false true is_above is_below = inr (rw (awaited, is_above, is_below) tt)
  sync_or_order r how joined last from time base awaited begins honest may false false is_above is_below =
      inl (sync_begins m laws log r how joined last from time base legal awaited begins (grind (arith, nat_tests)) (grind (arith, nat_tests)) honest may)

  synced_stands : (v : Viewer) (how : How) (joined last from : ℕ) (base : Option Base) (heard : List (Option ServerFrame)) → ReadsLog m log view v.worlds v.replica heard → StandsIn m log view (after_frame v (ToJoin how) (Sync joined last from base)) heard
  synced_stands v Fresh joined last from base heard reads = go_on_stands v [] Begins heard reads tt
  synced_stands v Whole joined last from base heard reads = go_on_stands v [] Begins heard reads tt
  synced_stands v Resume joined last from base heard reads = go_on_stands (after_giving v) (unsent v.replica) (TellsText _) heard (reads_given m log view v.worlds v.replica heard reads) (own_unsent m log view v.worlds (after_giving v).replica v.replica)

  may_join : (r : RealReplica) (how : How) → FollowsLog m log r → MayJoin m log r how
  may_join r Fresh follows = tt
  may_join r Whole follows = tt
  may_join r Resume follows = follows

  -- a refused frame, of which nothing follows
  refused_stands : (v : Viewer) (how : How) (about code kept more : ℕ) (of_snap of_join : Bool) (other : RealReplica) (heard : List (Option ServerFrame)) → AwaitsSync m log view how v.worlds v.replica heard
      → let t = (if of_snap then takes v.replica else if of_join then faults other (fault.Refused about code kept) else faults v.replica (fault.Refused about code kept)) in
      StandsIn m log view (phase_behind_frame (with_taken v t) (ToJoin how) (Refused about code kept more) t.fault) heard
  refused_stands v how about code kept more true of_join other heard awaits = go_on_stands v [] (Receives (ToJoin how)) heard awaits tt
  refused_stands v how about code kept more false true other heard awaits = tt
  refused_stands v how about code kept more false false other heard awaits = tt

  -- the first frame of a link
  abbrev JoinHears : Viewer → How → ServerFrame → List (Option ServerFrame) → RealWorlds → Type 0
  JoinHears v how frame heard w = StandsIn m log view (phase_behind_frame (with_taken v (taken w v.replica frame)) (ToJoin how) frame (taken w v.replica frame).fault) heard

  first_stands : (v : Viewer) (how : How) (given : List (Option ClientFrame)) (frame : ServerFrame) (frames : List ServerFrame) (heard : List (Option ServerFrame))
      → v.worlds ≡ m → v.replica.view ≡ view → FollowsLog m log v.replica → v.replica.awaited ≡ Some how → map Some frames ≡ heard
      → Served log (Some (join_frame m v.replica how) ∷ given) (frame ∷ frames) → BeginsHonestly m log (frame ∷ frames) → JoinHears v how frame heard m
  first_stands v how given (Sync joined last from base) frames heard same its follows awaited told served honest =
      let t = taken m v.replica (Sync joined last from base) in
      elim (sync_or_order v.replica how joined last from served.0 base awaited served.1.begins honest (may_join v.replica how follows) (nat_lt (published_count v.replica) last) (nat_lt last v.replica.acknowledged) refl refl) [
        | inl began ↦
            subst (λ (found : Option ReplicaFault). StandsIn m log view (phase_behind_frame (with_taken v t) (ToJoin how) (Sync joined last from base) found) heard) (sym began.fine)
            (synced_stands (with_taken v t) how joined last from base heard (record {
              same = same;
              its = (taken_keeps m v.replica (Sync joined last from base)).view ∙ its;
              place = record { seen = from; least = served.0 };
              frames = frames;
              told = told;
              stands = began.stands;
              streams = served.2.streams;
            }))
        | inr order ↦ order_stands (with_taken v t) (ToJoin how) (Sync joined last from base) t.fault heard order
      ]
  first_stands v how given (Refused about code kept more) frames heard same its follows awaited told served honest =
      refused_stands v how about code kept more (about == SNAP_TAG) (about == JOIN_TAG) (record v.replica { awaited = None }) heard (record {
        same = same;
        its = its;
        follows = follows;
        awaited = awaited;
        given = given;
        frames = frames;
        told = told;
        served = subst (λ (fs : List ServerFrame). Served log (Some (join_frame m v.replica how) ∷ given) fs) (sym served) tt;
        honest = subst (λ (fs : List ServerFrame). BeginsHonestly m log fs) (sym served) tt;
      })
  first_stands v how given (Recv entry) frames heard same its follows awaited told served honest = absurd served
  first_stands v how given (Tick time) frames heard same its follows awaited told served honest = absurd served
  first_stands v how given (Done number seq time) frames heard same its follows awaited told served honest = absurd served
  first_stands v how given (Snapped time) frames heard same its follows awaited told served honest = absurd served
  first_stands v how given Alive frames heard same its follows awaited told served honest = absurd served

  -- ---- a frame is heard

  same_head : (f frame : ServerFrame) (fs : List ServerFrame) (heard : List (Option ServerFrame)) → Some f ∷ map Some fs ≡ Some frame ∷ heard → f ≡ frame
  same_head f frame fs heard same = cc

  same_rest : (f frame : ServerFrame) (fs : List ServerFrame) (heard : List (Option ServerFrame)) → Some f ∷ map Some fs ≡ Some frame ∷ heard → map Some fs ≡ heard
  same_rest f frame fs heard same = cc

  join_hears : (v : Viewer) (how : How) (given : List (Option ClientFrame)) (frame : ServerFrame) (frames : List ServerFrame) (heard : List (Option ServerFrame))
      → v.worlds ≡ m → v.replica.view ≡ view → FollowsLog m log v.replica → v.replica.awaited ≡ Some how → map Some frames ≡ Some frame ∷ heard
      → Served log (Some (join_frame m v.replica how) ∷ given) frames → BeginsHonestly m log frames → JoinHears v how frame heard m
  join_hears v how given frame [] heard same its follows awaited told served honest = absurd cc
  join_hears v how given frame (f ∷ fs) heard same its follows awaited told served honest =
      let is = same_head f frame fs heard told in
      first_stands v how given frame fs heard same its follows awaited (same_rest f frame fs heard told)
      (subst (λ (g : ServerFrame). Served log (Some (join_frame m v.replica how) ∷ given) (g ∷ fs)) is served)
      (subst (λ (g : ServerFrame). BeginsHonestly m log (g ∷ fs)) is honest)

  read_hears : (v : Viewer) (aim : Aim) (frame : ServerFrame) (frames : List ServerFrame) (heard : List (Option ServerFrame)) (place : Place) → IsNoJoin aim
      → v.worlds ≡ m → v.replica.view ≡ view → StandsAt m log place v.replica → map Some frames ≡ Some frame ∷ heard → Streams log place frames
      → StandsIn m log view (phase_behind_frame (with_taken v (taken m v.replica frame)) aim frame (taken m v.replica frame).fault) heard
  read_hears v aim frame [] heard place is same its stands told streams = absurd cc
  read_hears v aim frame (f ∷ fs) heard place is same its stands told streams =
      let comes = subst (λ (g : ServerFrame). Streams log place (g ∷ fs)) (same_head f frame fs heard told) streams in
      let t = taken m v.replica frame in
      let behind = behind_frame m laws log place v.replica frame legal stands comes.0 in
      behind_fault (with_taken v t) aim frame t.fault heard is (record {
        same = same;
        its = (taken_keeps m v.replica frame).view ∙ its;
        place = place_after place frame;
        frames = fs;
        told = same_rest f frame fs heard told;
        stands = behind.stands;
        streams = comes.1;
      })

  reads_frame : (v : Viewer) (aim : Aim) (frame : ServerFrame) (heard : List (Option ServerFrame)) → IsNoJoin aim → ReadsLog m log view v.worlds v.replica (Some frame ∷ heard) → StandsIn m log view (reads v aim (Some frame)) heard
  reads_frame v aim frame heard is read =
      subst (λ (w : RealWorlds). StandsIn m log view (phase_behind_frame (with_taken v (taken w v.replica frame)) aim frame (taken w v.replica frame).fault) heard) (sym read.same)
      (read_hears v aim frame read.frames heard read.place is read.same read.its read.stands read.told read.streams)

  reads_stands : (v : Viewer) (aim : Aim) (found : Option ServerFrame) (heard : List (Option ServerFrame)) → StandsFor m log view aim v.worlds v.replica (found ∷ heard) → StandsIn m log view (reads v aim found) heard
  reads_stands v aim None heard stands = tt
  reads_stands v (ToJoin how) (Some frame) heard awaits =
      subst (JoinHears v how frame heard) (sym awaits.same)
      (join_hears v how awaits.given frame awaits.frames heard awaits.same awaits.its awaits.follows awaits.awaited awaits.told awaits.served awaits.honest)
  reads_stands v (ToReach time) (Some frame) heard read = reads_frame v (ToReach time) frame heard tt read
  reads_stands v ToSettle (Some frame) heard read = reads_frame v ToSettle frame heard tt read
  reads_stands v ToCatchUp (Some frame) heard read = reads_frame v ToCatchUp frame heard tt read
  reads_stands v ToSnap (Some frame) heard read = reads_frame v ToSnap frame heard tt read
  reads_stands v (ToSee at) (Some frame) heard read = reads_frame v (ToSee at) frame heard tt read

  quiet_stands : (v : Viewer) (aim : Aim) (heard : List (Option ServerFrame)) → StandsFor m log view aim v.worlds v.replica heard → StandsIn m log view (quiet v aim) heard
  quiet_stands v aim heard stands = if_phase m log view (v.quiets == most_quiets) (Over ending.Ended) _ heard tt (go_on_stands v [] (Receives aim) heard stands tt)

  hearing_stands : (v : Viewer) (aim : Aim) (what : Heard) (next : Phase) (more : List (Option ServerFrame)) → StandsFor m log view aim v.worlds v.replica (heard_then what more) → Hearing v aim what next → StandsIn m log view next more
  hearing_stands v aim (said.Frame bytes) next more stands is = subst (λ (p : Phase). StandsIn m log view p more) (sym is) (reads_stands (heard_frame v) aim (whole server_at bytes) more stands)
  hearing_stands v aim said.Quiet next more stands is = subst (λ (p : Phase). StandsIn m log view p more) (sym is) (quiet_stands (heard_quiet v) aim more stands)
  hearing_stands v aim said.End next more stands is = subst (λ (p : Phase). StandsIn m log view p more) (sym is) tt
  hearing_stands v aim said.Failed next more stands is = absurd is
  hearing_stands v aim said.WantOfMemory next more stands is = absurd is

  -- ---- a link is made

  -- the first frame of a link that the log serves is the view's JOIN
  enters : (v : Viewer) (how : How) (bytes : List ℕ) (rest : List (List ℕ)) (heard : List (Option ServerFrame)) → KnowsLog m log view v.worlds v.replica → IsServedBy m log (record { sent = bytes ∷ rest; heard = heard })
      → bytes ≡ client_spelling (join_frame v.worlds v.replica how) → IsClientFrame (join_frame v.worlds v.replica how) → StandsIn m log view (enter_session v how) heard
  enters v how bytes rest heard knows serves is fits =
      let read : whole client_at bytes ≡ Some (join_frame m v.replica how) = ap (whole client_at) is ∙ whole_again client_codec (join_frame v.worlds v.replica how) fits ∙ ap (λ (w : RealWorlds). Some (join_frame w v.replica how)) knows.same in (
        record {
          same = knows.same;
          its = knows.its;
          follows = record { whole = knows.follows.whole; valid = knows.follows.valid; follows = knows.follows.follows; counted = knows.follows.counted };
          awaited = refl;
          given = serves.given;
          frames = serves.frames;
          told = serves.heard;
          served = subst (λ (x : Option ClientFrame). Served log (x ∷ serves.given) serves.frames) read serves.served;
          honest = serves.honest;
        },
        (tt, tt),
      )

  -- what was sent first on it is the view's JOIN, if anything was sent
  connects_stand : (v : Viewer) (how : How) (steps : List Step) (last : Phase) → KnowsLog m log view v.worlds v.replica → IsServedBy m log (record { sent = sent_in steps; heard = heard_in steps })
      → Walks (enter_session v how) steps last → StandsIn m log view (enter_session v how) (heard_in steps)
  connects_stand v how [] last knows serves walks = (
    record {
      same = knows.same;
      its = knows.its;
      follows = record { whole = knows.follows.whole; valid = knows.follows.valid; follows = knows.follows.follows; counted = knows.follows.counted };
      awaited = refl;
      given = [];
      frames = [];
      told = refl;
      served = tt;
      honest = tt;
    },
    (tt, tt),
  )
  connects_stand v how (Sends bytes ∷ steps) last knows serves (next, moves, walks) = enters v how bytes (sent_in steps) (heard_in steps) knows serves moves.0 moves.1
  connects_stand v how (step ∷ steps) last knows serves (next, moves, walks) = absurd moves

  -- ---- a step

  at_next : (next to : Phase) (heard : List (Option ServerFrame)) → next ≡ to → StandsIn m log view to heard → StandsIn m log view next heard
  at_next next to heard is stands = subst (λ (p : Phase). StandsIn m log view p heard) (sym is) stands

  abbrev IsNoLast : Phase → Type 0
  IsNoLast (PrintingLast text) = ⊥
  IsNoLast phase = Unit {0}

  -- the log serves the link that the step makes, if it makes one
  abbrev MakesServed : Step → List Step → Type 0
  MakesServed (Connects address) steps = IsServedBy m log (record { sent = sent_in steps; heard = heard_in steps })
  MakesServed step steps = Unit {0}

  move_stands : (from : Phase) (step : Step) (next : Phase) (steps : List Step) (last : Phase) → IsNoLast from → StandsIn m log view from (heard_in (step ∷ steps)) → MakesServed step steps → Moves from step next → Walks next steps last
      → StandsIn m log view next (heard_in steps)
  move_stands (Connecting v how) (Connects address) next steps last before stands serves moves walks =
      at_next next (enter_session v how) (heard_in steps) moves.1
      (connects_stand v how steps last stands serves (subst (λ (p : Phase). Walks p steps last) moves.1 walks))
  move_stands (Connecting v how) step next steps last before stands serves moves walks = absurd moves
  move_stands (Sending v frame frames task) (Sends bytes) next steps last before stands serves moves walks =
      at_next next _ (heard_in steps) moves.3 (send_stands (record v { receives = 0 }) frames task (heard_in steps) stands.0 stands.1.1)
  move_stands (Sending v frame frames task) step next steps last before stands serves moves walks = absurd moves
  move_stands (Receiving v aim) (Hears what) next steps last before stands serves moves walks = hearing_stands v aim what next (heard_in steps) stands moves
  move_stands (Receiving v aim) step next steps last before stands serves moves walks = absurd moves
  move_stands (Printing v text) (Prints piece) next steps last before stands serves moves walks = at_next next (run v v.lines) (heard_in steps) moves.1 (run_stands v v.lines (heard_in steps) stands)
  move_stands (Printing v text) step next steps last before stands serves moves walks = absurd moves
  move_stands (Leaving v text) (Prints piece) next steps last before stands serves moves walks = at_next next _ (heard_in steps) moves.1 (stands, (tt, tt))
  move_stands (Leaving v text) step next steps last before stands serves moves walks = absurd moves
  move_stands (PrintingLast text) step next steps last before stands serves moves walks = absurd before
  move_stands (Returning v how) Returns next steps last before stands serves moves walks = at_next next (Connecting v how) (heard_in steps) moves stands
  move_stands (Returning v how) step next steps last before stands serves moves walks = absurd moves
  move_stands (Over end) step next steps last before stands serves moves walks = absurd moves

  links_behind : (step : Step) (steps : List Step) → AllByRecursion (IsServedBy m log) (links_in (step ∷ steps)) → MakesServed step steps × AllByRecursion (IsServedBy m log) (links_in steps)
  links_behind (Connects address) steps serves = serves
  links_behind step steps serves = (tt, serves)

  over_rests : (end : ViewEnd) (steps : List Step) (line : List ℕ) → Walks (Over end) steps (PrintingLast line) → ⊥
  over_rests end [] line walks = absurd cc
  over_rests end (step ∷ steps) line (next, moves, walks) = absurd moves

  -- a walk to the last line
  pub walk_tells : (from : Phase) (steps : List Step) (line : List ℕ) → StandsIn m log view from (heard_in steps) → AllByRecursion (IsServedBy m log) (links_in steps) → Walks from steps (PrintingLast line) → TellsReplay m log view line
  walk_tells from [] line stands serves walks = subst (λ (p : Phase). StandsIn m log view p []) walks stands
  walk_tells (PrintingLast text) (Prints piece ∷ steps) line stands serves (next, moves, walks) = absurd (over_rests ending.Done steps line (subst (λ (p : Phase). Walks p steps (PrintingLast line)) moves.1 walks))
  walk_tells (PrintingLast text) (step ∷ steps) line stands serves (next, moves, walks) = absurd moves
  walk_tells from (step ∷ steps) line stands serves (next, moves, walks) =
      let links = links_behind step steps serves in
      walk_tells next steps line (move_stands from step next steps (PrintingLast line) tt stands links.0 moves walks) links.1 walks

  over_prints : (end : ViewEnd) (steps : List Step) (v : Viewer) (text : List ℕ) → Walks (Over end) steps (Printing v text) → ⊥
  over_prints end [] v text walks = absurd cc
  over_prints end (step ∷ steps) v text (next, moves, walks) = absurd moves

  -- a walk to the text of a line
  pub walk_prints : (from : Phase) (steps : List Step) (v : Viewer) (text : List ℕ) → StandsIn m log view from (heard_in steps) → AllByRecursion (IsServedBy m log) (links_in steps) → Walks from steps (Printing v text)
      → ReadsLog m log view v.worlds v.replica []
  walk_prints from [] v text stands serves walks = subst (λ (p : Phase). StandsIn m log view p []) walks stands
  walk_prints (PrintingLast line) (Prints piece ∷ steps) v text stands serves (next, moves, walks) = absurd (over_prints ending.Done steps v text (subst (λ (p : Phase). Walks p steps (Printing v text)) moves.1 walks))
  walk_prints (PrintingLast line) (step ∷ steps) v text stands serves (next, moves, walks) = absurd moves
  walk_prints from (step ∷ steps) v text stands serves (next, moves, walks) =
      let links = links_behind step steps serves in
      walk_prints next steps v text (move_stands from step next steps (Printing v text) tt stands links.0 moves walks) links.1 walks

  -- what was printed last
  pub record EndsWithReplay (steps : List Step) : Type 0 where
    pub front : List Step
    pub line : List ℕ
    pub last : steps ≡ front ++ Prints line ∷ []
    pub tells : TellsReplay m log view line

  over_is_last : (end : ViewEnd) (steps : List Step) (last : Phase) → Walks (Over end) steps last → steps ≡ []
  over_is_last end [] last walks = refl
  over_is_last end (step ∷ steps) last (next, moves, walks) = absurd moves

  one_more : (step : Step) (steps : List Step) → EndsWithReplay steps → EndsWithReplay (step ∷ steps)
  one_more step steps ends = record { front = step ∷ ends.front; line = ends.line; last = ap (λ (more : List Step). step ∷ more) ends.last; tells = ends.tells }

  not_done : (from : Phase) → StandsIn m log view from [] → from ≡ Over ending.Done → ⊥
  not_done from stands is = subst (λ (p : Phase). StandsIn m log view p []) is stands

  -- a walk that is done
  pub walk_ends : (from : Phase) (steps : List Step) → StandsIn m log view from (heard_in steps) → AllByRecursion (IsServedBy m log) (links_in steps) → Walks from steps (Over ending.Done) → EndsWithReplay steps
  walk_ends from [] stands serves walks = absurd (not_done from stands walks)
  walk_ends (PrintingLast text) (Prints piece ∷ steps) stands serves (next, moves, walks) =
      record {
        front = [];
        line = piece;
        last = ap (λ (more : List Step). Prints piece ∷ more) (over_is_last ending.Done steps (Over ending.Done) (subst (λ (p : Phase). Walks p steps (Over ending.Done)) moves.1 walks));
        tells = subst (TellsReplay m log view) (sym moves.0) stands;
      }
  walk_ends (PrintingLast text) (step ∷ steps) stands serves (next, moves, walks) = absurd moves
  walk_ends from (step ∷ steps) stands serves (next, moves, walks) =
      let links = links_behind step steps serves in
      one_more step steps (walk_ends next steps (move_stands from step next steps (Over ending.Done) tt stands links.0 moves walks) links.1 walks)

  -- ---- what it offers

  follower_of : (v : Viewer) (time : ℕ) (bytes : List ℕ) → IsOwnFrame m log v.worlds v.replica (client.Snap time bytes) → IsReadAsWorld v (client.Snap time bytes) → IsOfFollower m log time bytes
  follower_of v time bytes own reads = record {
    replica = v.replica;
    follows = own.1;
    timed = own.2;
    spelled = own.3;
    again = subst (λ (w : RealWorlds). w.unsnap bytes ≡ Some v.replica.world) own.0 reads;
  }

  own_is : (v : Viewer) (frame : ClientFrame) (sent : List ℕ) → sent ≡ client_spelling frame → IsClientFrame frame → IsReadAsWorld v frame → IsOwnFrame m log v.worlds v.replica frame
      → (time : ℕ) (bytes : List ℕ) → time < time_limit → sent ≡ client_spelling (client.Snap time bytes) → IsOfFollower m log time bytes
  own_is v (client.Snap t b) sent is fits reads own time bytes below same =
      let spelled = sym is ∙ same in
      subst (λ (x : ℕ). IsOfFollower m log x bytes) (same_time t time b bytes fits.0.0 below spelled) (subst (λ (x : List ℕ). IsOfFollower m log t x) (same_bytes t time b bytes spelled) (follower_of v t b own reads))
  own_is v (client.Join session number want) sent is fits reads own time bytes below same = absurd (cc (is, same))
  own_is v (client.Send number payload) sent is fits reads own time bytes below same = absurd (cc (is, same))
  own_is v client.Leave sent is fits reads own time bytes below same = absurd (cc (is, same))
  own_is v client.Alive sent is fits reads own time bytes below same = absurd (cc (is, same))

  step_offers : (from : Phase) (step : Step) (next : Phase) (steps : List Step) → StandsIn m log view from (heard_in (step ∷ steps)) → Moves from step next → OffersFollow m log steps → OffersFollow m log (step ∷ steps)
  step_offers (Sending v frame frames task) (Sends sent) next steps stands moves more = (own_is v frame sent moves.0 moves.1 moves.2 stands.1.0, more)
  step_offers from (Sends sent) next steps stands moves more = absurd moves
  step_offers from step next steps stands moves more = more

  -- each SNAP of a walk is of a replica that follows the log
  pub walk_offers : (from : Phase) (steps : List Step) (last : Phase) → StandsIn m log view from (heard_in steps) → AllByRecursion (IsServedBy m log) (links_in steps) → Walks from steps last → OffersFollow m log steps
  walk_offers from [] last stands serves walks = tt
  walk_offers (PrintingLast text) (Prints piece ∷ steps) last stands serves (next, moves, walks) =
      subst (λ (more : List Step). OffersFollow m log more) (sym (over_is_last ending.Done steps last (subst (λ (p : Phase). Walks p steps last) moves.1 walks))) tt
  walk_offers (PrintingLast text) (step ∷ steps) last stands serves (next, moves, walks) = absurd moves
  walk_offers from (step ∷ steps) last stands serves (next, moves, walks) =
      let links = links_behind step steps serves in
      step_offers from step next steps stands moves (walk_offers next steps last (move_stands from step next steps last tt stands links.0 moves walks) links.1 walks)

  -- ---- what it offers on one link

  same_frame : (frame other : ClientFrame) → Some frame ≡ Some other → frame ≡ other
  same_frame frame other is = cc

  is_following : (v : Viewer) (frame : ClientFrame) (sent : List ℕ) → sent ≡ client_spelling frame → IsClientFrame frame → IsReadAsWorld v frame → IsOwnFrame m log v.worlds v.replica frame → IsGoodFrame (IsOfFollower m log) sent
  is_following v frame sent is fits reads own time bytes read =
      let it = same_frame frame (client.Snap time bytes) (sym (ap (whole client_at) is ∙ whole_again client_codec frame fits) ∙ read) in
      follower_of v time bytes (subst (IsOwnFrame m log v.worlds v.replica) it own) (subst (IsReadAsWorld v) it reads)

  -- on the link that is in use
  sends_follow : (from : Phase) (steps : List Step) (last : Phase) → StandsIn m log view from (heard_in steps) → Walks from steps last → AllByRecursion (IsGoodFrame (IsOfFollower m log)) (sent_in steps)
  sends_follow from [] last stands walks = tt
  sends_follow from (Connects address ∷ steps) last stands (next, moves, walks) = tt
  sends_follow from (Returns ∷ steps) last stands (next, moves, walks) = tt
  sends_follow (PrintingLast text) (Prints piece ∷ steps) last stands (next, moves, walks) =
      subst (λ (more : List Step). AllByRecursion (IsGoodFrame (IsOfFollower m log)) (sent_in more)) (sym (over_is_last ending.Done steps last (subst (λ (p : Phase). Walks p steps last) moves.1 walks))) tt
  sends_follow (PrintingLast text) (step ∷ steps) last stands (next, moves, walks) = absurd moves
  sends_follow (Sending v frame frames task) (Sends sent ∷ steps) last stands (next, moves, walks) = (
    is_following v frame sent moves.0 moves.1 moves.2 stands.1.0,
    sends_follow next steps last (move_stands (Sending v frame frames task) (Sends sent) next steps last tt stands tt moves walks) walks,
  )
  sends_follow from (Sends sent ∷ steps) last stands (next, moves, walks) = absurd moves
  sends_follow from (step ∷ steps) last stands (next, moves, walks) = sends_follow next steps last (move_stands from step next steps last tt stands tt moves walks) walks

  no_link : (before : List LinkTalk) (link : LinkTalk) (after : List LinkTalk) → [] ≡ before ++ link ∷ after → ⊥
  no_link [] link after is = absurd cc
  no_link (first ∷ before) link after is = absurd cc

  first_link : (first link : LinkTalk) (rest after : List LinkTalk) → first ∷ rest ≡ link ∷ after → first ≡ link
  first_link first link rest after is = cc

  other_links : (first link : LinkTalk) (rest after : List LinkTalk) → first ∷ rest ≡ link ∷ after → rest ≡ after
  other_links first link rest after is = cc

  -- on a link that the log serves, as it serves those before it
  pub link_follows : (from : Phase) (steps : List Step) (last : Phase) (before : List LinkTalk) (link : LinkTalk) (after : List LinkTalk) → StandsIn m log view from (heard_in steps) → Walks from steps last
      → links_in steps ≡ before ++ link ∷ after → AllByRecursion (IsServedBy m log) before → IsServedBy m log link → AllByRecursion (IsGoodFrame (IsOfFollower m log)) link.sent
  link_follows from [] last before link after stands walks is serves served = absurd (no_link before link after is)
  link_follows (PrintingLast text) (Prints piece ∷ steps) last before link after stands (next, moves, walks) is serves served =
      let none = over_is_last ending.Done steps last (subst (λ (p : Phase). Walks p steps last) moves.1 walks) in
      absurd (no_link before link after (subst (λ (more : List Step). links_in more ≡ before ++ link ∷ after) none is))
  link_follows (PrintingLast text) (step ∷ steps) last before link after stands (next, moves, walks) is serves served = absurd moves
  link_follows (Connecting v how) (Connects address ∷ steps) last [] link after stands (next, moves, walks) is serves served =
      let made : LinkTalk = record { sent = sent_in steps; heard = heard_in steps } in
      let same = first_link made link (links_in steps) after is in
      subst (λ (l : LinkTalk). AllByRecursion (IsGoodFrame (IsOfFollower m log)) l.sent) same
      (sends_follow next steps last (move_stands (Connecting v how) (Connects address) next steps last tt stands (subst (IsServedBy m log) (sym same) served) moves walks) walks)
  link_follows (Connecting v how) (Connects address ∷ steps) last (first ∷ before) link after stands (next, moves, walks) is serves served =
      let made : LinkTalk = record { sent = sent_in steps; heard = heard_in steps } in
      let same = first_link made first (links_in steps) (before ++ link ∷ after) is in
      link_follows next steps last before link after (move_stands (Connecting v how) (Connects address) next steps last tt stands (subst (IsServedBy m log) (sym same) serves.0) moves walks) walks
      (other_links made first (links_in steps) (before ++ link ∷ after) is) serves.1 served
  link_follows from (Connects address ∷ steps) last before link after stands (next, moves, walks) is serves served = absurd moves
  link_follows from (step ∷ steps) last before link after stands (next, moves, walks) is serves served =
      link_follows next steps last before link after (move_stands from step next steps last tt stands tt moves walks) walks is serves served
