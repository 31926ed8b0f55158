-- A view that joined, or whose base was none.
use Rattle.std.proofs.Common.{◌≡◌, inl, inr, ℕ, List, [], Some, refl, sym, ap, subst}
use Rattle.std.specs.Prelude.{◌⊎◌, ⊤, Result, MatchResult}
use Rattle.wire_frames.specs.declared.frame.ClientFrame.{ClientFrame}
use Rattle.replica.specs.View.{ReplicaView, with_plain, worlds_of}
use Rattle.replica_plain.specs.Calls.{join_frame, joining, unsent}
use Rattle.replica_plain.specs.declared.how.How.{How}
use Rattle.replica_plain.specs.declared.how.How.TheVariants.{Fresh, Whole, Resume}
use Rattle.run_steps.specs.Outside.{Outside, OutputTells, LinksTell, Acts, link_side, link_side_tells}
use Rattle.view_script.specs.PlainLine.{PlainLine}
use Rattle.view_shell.specs.declared.ending.ViewEnd.{ViewEnd}
use Rattle.view_shell.specs.declared.ending.ViewEnd.TheVariants as ending
use Rattle.view_shell.specs.declared.lines.Departure.{Departure}
use Rattle.view_shell.specs.declared.hearing.Synced.{Synced}
use Rattle.view_shell.specs.declared.watcher.Watcher.{Watcher}
use Rattle.view_shell.specs.Phases.{Viewer, Phase, Receives, Receiving, Sending, TellsText, ToJoin, Over, bad_base, enter_session, after_giving, after_join, run, send_all}
use Rattle.view_shell.specs.Viewers.{viewer}
use Rattle.view_shell.specs.Flows.{bad_base_answer, departure_phase}
use Rattle.view_shell.specs.Hearing.{rejoined_text, synced_phase}
use Rattle.view_shell.specs.ViewRun.{Doing, Goes, GoesOrStops, LinkActs, Stops}
use Rattle.view_shell.proofs.Going.{all_acts_behind, goes_from, goes_in_link_side, goes_on, goes_or_stops_on, goes_to, reaches_end}
use Rattle.view_shell.proofs.Printings.{prints_nothing, printed_goes}
use Rattle.view_shell.proofs.Readiness.{viewer_joined}

-- the script of a view that joined begins; nothing is printed before
pub begins : {W L : Type 0} (out : OutputTells W) (links : LinksTell L) (w : W) (l : L) (v : Viewer) (how : How) (found : Synced) → (how ≡ Fresh) ⊎ (how ≡ Whole) → Goes (Acts (link_side_tells out links)) (synced_phase v how found) (run v v.lines) (link_side w l) (link_side w l)
begins {W = W} {L = L} out links w l v how found (inl is) =
    subst (λ (h : How). Goes (Acts (link_side_tells out links)) (synced_phase v h found) (run v v.lines) (link_side w l) (link_side w l)) (sym is) (printed_goes out links l w w v [] (prints_nothing out w))
begins {W = W} {L = L} out links w l v how found (inr is) =
    subst (λ (h : How). Goes (Acts (link_side_tells out links)) (synced_phase v h found) (run v v.lines) (link_side w l) (link_side w l)) (sym is) (printed_goes out links l w w v [] (prints_nothing out w))

-- a base that is none
pub base_flows : {S : Type 0} (does : Doing S) (from : Phase) (v : List PlainLine → Viewer) (lines : List PlainLine) (how : How) (old new : S) (answer : Result Departure ViewEnd) → answer ≡ bad_base_answer how
    → Goes does from (bad_base (v lines) (ToJoin how)) old new → MatchResult answer (λ departure. Goes does from (departure_phase v lines departure) old new) (λ end. Stops does from end old new)
base_flows does from v lines how old new answer is goes =
    subst (λ (a : Result Departure ViewEnd). MatchResult a (λ departure. Goes does from (departure_phase v lines departure) old new) (λ end. Stops does from end old new)) (sym is) (base_flows_by does from v lines how old new goes)
  where
    base_flows_by : {S : Type 0} (does : Doing S) (from : Phase) (v : List PlainLine → Viewer) (lines : List PlainLine) (how : How) (old new : S)
        → Goes does from (bad_base (v lines) (ToJoin how)) old new → MatchResult (bad_base_answer how) (λ departure. Goes does from (departure_phase v lines departure) old new) (λ end. Stops does from end old new)
    base_flows_by does from v lines Fresh old new goes = goes
    base_flows_by does from v lines Whole old new goes = reaches_end does from (Over ending.Peer) ending.Peer old new goes refl
    base_flows_by does from v lines Resume old new goes = reaches_end does from (Over ending.Peer) ending.Peer old new goes refl

-- a view that joined again behind a cut
pub rejoins : (v : Viewer) (how : How) (found : Synced) → how ≡ Resume → synced_phase v how found ≡ send_all (after_giving v) (unsent v.replica) (TellsText (rejoined_text (Some found)))
rejoins v how found is = ap (λ (h : How). synced_phase v h found) is

-- a view that sent the frame by which it joins
pub sent_to_join : {L : Type 0} (links : LinksTell L) (address : List ℕ) (lines : List PlainLine) (w w' : Watcher) (replica : ReplicaView) (how : How) (frame : ClientFrame) (old new : L)
    → w' ≡ record w { replica = replica; receives = w'.receives; quiets = 0 } → w'.receives ≡ 0 → replica ≡ with_plain w.replica (joining w.replica.plain how) → frame ≡ join_frame (worlds_of w.replica) w.replica.plain how
    → Goes (LinkActs links) (Sending (after_join (viewer address w lines) how) frame [] (Receives (ToJoin how))) (Receiving (after_join (viewer address w lines) how) (ToJoin how)) old new
    → Goes (LinkActs links) (enter_session (viewer address w lines) how) (Receiving (viewer address w' lines) (ToJoin how)) old new
sent_to_join links address lines w w' replica how frame old new kept zero joins is goes =
    let v = after_join (viewer address w lines) how in
    let u = viewer address w' lines in
    goes_from (LinkActs links) (enter_session (viewer address w lines) how) (Sending v frame [] (Receives (ToJoin how))) (Receiving u (ToJoin how)) old new (ap (λ (f : ClientFrame). Sending v f [] (Receives (ToJoin how))) (sym is))
    (goes_to (LinkActs links) (Sending v frame [] (Receives (ToJoin how))) (Receiving v (ToJoin how)) (Receiving u (ToJoin how)) old new
    (ap (λ (one : Viewer). Receiving one (ToJoin how)) (viewer_joined address lines w w' replica how kept zero joins)) goes)

-- a view that joined, and whose script has begun
module _ {W L : Type 0} (out : OutputTells W) (links : LinksTell L) (address : List ℕ) (lines : List PlainLine) (how : How) (found : Synced) (w0 w1 w2 : Watcher) where
  abbrev pub start : Phase
  start = enter_session (viewer address w0 lines) how

  abbrev pub met : Phase
  met = synced_phase (viewer address w1 lines) how found

  abbrev pub script : Phase
  script = run (viewer address w2 lines) lines

  module _ (o : W) (l l' : L) (begun new : Outside ⊤ W ⊤ L) (joins : Goes (LinkActs links) start met l l') (begins_there : Goes (Acts (link_side_tells out links)) met script (link_side o l') begun) where
    joined_and_begun : Goes (Acts (link_side_tells out links)) start script (link_side o l) begun
    joined_and_begun =
        goes_on (Acts (link_side_tells out links)) (all_acts_behind (link_side_tells out links)) start met script (link_side o l) (link_side o l') begun
        (goes_in_link_side out links o start met l l' joins) begins_there

    pub begun_flows : {A : Type 0} (to : A → Phase) (r : Result A ViewEnd) → GoesOrStops (Acts (link_side_tells out links)) script to r begun new → GoesOrStops (Acts (link_side_tells out links)) start to r (link_side o l) new
    begun_flows to r flows = goes_or_stops_on (Acts (link_side_tells out links)) (all_acts_behind (link_side_tells out links)) start script to r (link_side o l) begun new joined_and_begun flows
