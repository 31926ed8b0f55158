-- What comes of hearing a link once.
use Rattle.std.proofs.Common.{◌≡◌, inl, inr, ℕ, ◌==◌, Bool, true, false, if◌then◌else◌, List, [], ◌∷◌, Option, Some, None, Ok, Err, refl, sym, ap, subst}
use Rattle.std.specs.Prelude.{MatchResult, Result}
use Rattle.byte_fields.specs.Fields.{whole}
use Rattle.tea_io.specs.declared.link.Heard.{Heard}
use Rattle.tea_io.specs.declared.link.Heard.TheVariants as heard
use Rattle.tea_io.specs.Links.{most_quiets}
use Rattle.wire_frames.specs.Reading.{server_at}
use Rattle.wire_frames.specs.declared.frame.ClientFrame.{ClientFrame}
use Rattle.wire_frames.specs.declared.frame.ServerFrame.{ServerFrame}
use Rattle.wire_frames.specs.declared.frame.ServerFrame.TheVariants as server
use Rattle.replica_plain.specs.declared.how.How.{How}
use Rattle.replica_plain.specs.declared.how.How.TheVariants.{Fresh, Whole, Resume}
use Rattle.replica_plain.specs.Calls.{unsent}
use Rattle.replica_plain.specs.PlainReplica.{published_count}
use Rattle.run_steps.specs.Steps.{Hears}
use Rattle.run_steps.specs.Outside.{LinksTell, Well, Failed, WantedMemory, HearsLink}
use Rattle.view_shell.specs.declared.ending.ViewEnd.{ViewEnd}
use Rattle.view_shell.specs.declared.ending.ViewEnd.TheVariants as ending
use Rattle.view_shell.specs.declared.hearing.Stop.{Stop}
use Rattle.view_shell.specs.declared.hearing.Stop.TheVariants as stop
use Rattle.view_shell.specs.declared.hearing.SnapAnswer.{SnapAnswer}
use Rattle.view_shell.specs.declared.hearing.Synced.{Synced}
use Rattle.view_shell.specs.Phases.{Viewer, Phase, Aim, ToJoin, ToReach, ToSettle, ToCatchUp, ToSnap, ToSee, Task, Begins, Receives, TellsText, Receiving, Over, Hearing, bad_base, after_giving, go_on, heard_frame, heard_quiet, quiet, reads, send_all, after_sync}
use Rattle.view_shell.proofs.Going.{Follows, goes_and_stops, goes_on}
use Rattle.view_shell.specs.ViewText.{rejoined_line, voted_line}
use Rattle.view_shell.specs.ViewRun.{Doing, Goes, Stops, LinkActs}
use Rattle.view_shell.specs.Hearing.{GoesOnFor, HeardPhase, StopsHearing, answer_in, answer_line, answered_phase, entry_phase, joined_phase, sync_in, voted_phase, StopsAt}

-- ---- a frame is taken, or not

-- ---- the phases behind a frame

pub goes_on_for : (v : Viewer) (aim : Aim) (frame : Option ServerFrame) → GoesOnFor aim → HeardPhase v aim frame ≡ go_on v [] (Receives aim)
goes_on_for v (ToReach time) None goes = refl
goes_on_for v (ToReach time) (Some frame) goes = refl
goes_on_for v ToSettle None goes = refl
goes_on_for v ToSettle (Some frame) goes = refl
goes_on_for v ToCatchUp None goes = refl
goes_on_for v ToCatchUp (Some frame) goes = refl
goes_on_for v (ToJoin how) frame goes = absurd goes
goes_on_for v ToSnap frame goes = absurd goes
goes_on_for v (ToSee at) frame goes = absurd goes

-- what is left to do behind an answer, or behind a frame that is none
abbrev pub behind_answer : Option SnapAnswer → Task
behind_answer None = Receives ToSnap
behind_answer (Some answer) = TellsText (answer_line answer)

pub answer_phase : (v : Viewer) (frame : Option ServerFrame) → HeardPhase v ToSnap frame ≡ go_on v [] (behind_answer (answer_in frame))
answer_phase v None = refl
answer_phase v (Some (server.Sync joined last from base)) = refl
answer_phase v (Some (server.Recv entry)) = refl
answer_phase v (Some (server.Tick time)) = refl
answer_phase v (Some (server.Done number seq time)) = refl
answer_phase v (Some (server.Snapped time)) = refl
answer_phase v (Some (server.Refused about code kept more)) = refl
answer_phase v (Some server.Alive) = refl

-- the phase behind a Sync, or behind a frame that is none
abbrev pub behind_sync : Viewer → How → Option Synced → Phase
behind_sync v how None = go_on v [] (Receives (ToJoin how))
behind_sync v how (Some found) = after_sync v how found.joined found.from

pub sync_phase : (v : Viewer) (how : How) (frame : Option ServerFrame) → HeardPhase v (ToJoin how) frame ≡ behind_sync v how (sync_in frame)
sync_phase v how None = refl
sync_phase v how (Some (server.Sync joined last from base)) = refl
sync_phase v how (Some (server.Recv entry)) = refl
sync_phase v how (Some (server.Tick time)) = refl
sync_phase v how (Some (server.Done number seq time)) = refl
sync_phase v how (Some (server.Snapped time)) = refl
sync_phase v how (Some (server.Refused about code kept more)) = refl
sync_phase v how (Some server.Alive) = refl

-- a link that was quiet too often is over
pub quiet_over : (v : Viewer) (aim : Aim) → v.quiets ≡ most_quiets → quiet v aim ≡ Over ending.Ended
quiet_over v aim is = ap (λ (n : ℕ). if n == most_quiets then Over ending.Ended else go_on v [] (Receives aim)) is

quiet_on_if : (v : Viewer) (aim : Aim) (test : Bool) → test ≡ false → (if test then Over ending.Ended else go_on v [] (Receives aim)) ≡ go_on v [] (Receives aim)
quiet_on_if v aim true is = absurd cc
quiet_on_if v aim false is = refl

pub quiet_on : (v : Viewer) (aim : Aim) → (v.quiets == most_quiets) ≡ false → quiet v aim ≡ go_on v [] (Receives aim)
quiet_on v aim is = quiet_on_if v aim (v.quiets == most_quiets) is

-- ---- one receive

module _ {L : Type 0} (links : LinksTell L) (v : Viewer) (aim : Aim) (old new : L) where
  -- the link said this, and then the view stands there
  hears_goes : (what : Heard) (next : Phase) → HearsLink links Well what old new → Hearing v aim what next → Goes (LinkActs links) (Receiving v aim) next old new
  hears_goes what next hears moves = record { steps = Hears what ∷ []; walks = (next, moves, refl); acts = inl (new, hears, refl) }

  pub hears_frame : (bytes : List ℕ) (next : Phase) → HearsLink links Well (heard.Frame bytes) old new → next ≡ reads (heard_frame v) aim (whole server_at bytes) → Goes (LinkActs links) (Receiving v aim) next old new
  hears_frame bytes next hears is = hears_goes (heard.Frame bytes) next hears is

  pub hears_quiet : (next : Phase) → HearsLink links Well heard.Quiet old new → next ≡ quiet (heard_quiet v) aim → Goes (LinkActs links) (Receiving v aim) next old new
  hears_quiet next hears is = hears_goes heard.Quiet next hears is

  pub hears_end : HearsLink links Well heard.End old new → Stops (LinkActs links) (Receiving v aim) ending.Ended old new
  hears_end hears = record {
    steps = Hears heard.End ∷ [];
    last = Over ending.Ended;
    cut = None;
    walks = (Over ending.Ended, refl, refl);
    acts = inl (new, hears, refl);
    ends = inl refl;
  }

  -- a frame that was not taken
  pub hears_stop : (bytes : List ℕ) (v' : Viewer) (why : Stop) → HearsLink links Well (heard.Frame bytes) old new → StopsAt why (reads (heard_frame v) aim (whole server_at bytes)) v' aim
      → StopsHearing (LinkActs links) why (Receiving v aim) v' aim old new
  hears_stop bytes v' (stop.End end) hears (inl is) = record {
    steps = Hears (heard.Frame bytes) ∷ [];
    last = Over end;
    cut = None;
    walks = (Over end, sym is, refl);
    acts = inl (new, hears, refl);
    ends = inl refl;
  }
  hears_stop bytes v' (stop.End end) hears (inr want) = record {
    steps = Hears (heard.Frame bytes) ∷ [];
    last = reads (heard_frame v) aim (whole server_at bytes);
    cut = None;
    walks = (reads (heard_frame v) aim (whole server_at bytes), refl, refl);
    acts = inl (new, hears, refl);
    ends = inr want;
  }
  hears_stop bytes v' stop.BadBase hears is = hears_frame bytes (bad_base v' aim) hears (sym is)

  -- a receive that came to nothing; its step may be any that could have been heard
  pub hears_nothing_failed : HearsLink links Failed heard.End old new → Stops (LinkActs links) (Receiving v aim) ending.NetFault old new
  hears_nothing_failed hears = record {
    steps = Hears heard.End ∷ [];
    last = Over ending.Ended;
    cut = Some (record { step = Hears heard.End; came = Failed });
    walks = (Over ending.Ended, refl, refl);
    acts = inr (inl (hears, refl));
    ends = refl;
  }

  pub hears_nothing_wanting : HearsLink links WantedMemory heard.End old new → Stops (LinkActs links) (Receiving v aim) ending.WantOfMemory old new
  hears_nothing_wanting hears = record {
    steps = Hears heard.End ∷ [];
    last = Over ending.Ended;
    cut = Some (record { step = Hears heard.End; came = WantedMemory });
    walks = (Over ending.Ended, refl, refl);
    acts = inr (inr (hears, refl));
    ends = refl;
  }

-- ---- why it stopped

pub stopped_end : {S : Type 0} (does : Doing S) (why : Stop) (end : ViewEnd) (from : Phase) (v : Viewer) (aim : Aim) (old new : S) → why ≡ stop.End end → StopsHearing does why from v aim old new → Stops does from end old new
stopped_end does why end from v aim old new is stops = subst (λ (one : Stop). StopsHearing does one from v aim old new) is stops

pub stopped_base : {S : Type 0} (does : Doing S) (why : Stop) (from : Phase) (v : Viewer) (aim : Aim) (old new : S) → why ≡ stop.BadBase → StopsHearing does why from v aim old new → Goes does from (bad_base v aim) old new
stopped_base does why from v aim old new is stops = subst (λ (one : Stop). StopsHearing does one from v aim old new) is stops

-- a base that is none is the reflector's fault, but for a view that joins for the first time
pub bad_base_for : (v : Viewer) (aim : Aim) → GoesOnFor aim → bad_base v aim ≡ Over ending.Peer
bad_base_for v (ToReach time) goes = refl
bad_base_for v ToSettle goes = refl
bad_base_for v ToCatchUp goes = refl
bad_base_for v (ToJoin how) goes = absurd goes
bad_base_for v ToSnap goes = absurd goes
bad_base_for v (ToSee at) goes = absurd goes

-- ---- a view that stays alive behind a frame

module _ {S : Type 0} (does : Doing S) (v : Viewer) (n : ℕ) (old new : S) where
  -- it says that it is alive where that is due, and goes on
  abbrev pub StaysAlive : Type 0
  StaysAlive = (w : Viewer) (frames : List ClientFrame) (task : Task) → w.receives ≡ v.receives → Goes does (go_on w frames task) (send_all (record w { receives = n }) frames task) old new

  abbrev pub StopsAlive : ViewEnd → Type 0
  StopsAlive end = (w : Viewer) (frames : List ClientFrame) (task : Task) → w.receives ≡ v.receives → Stops does (go_on w frames task) end old new

  pub answer_goes : (found : Option SnapAnswer) → StaysAlive → Goes does (go_on v [] (behind_answer found)) (answered_phase (record v { receives = n }) found) old new
  answer_goes None alive = alive v [] (Receives ToSnap) refl
  answer_goes (Some answer) alive = alive v [] (TellsText (answer_line answer)) refl

  pub sync_goes : (how : How) (found : Option Synced) → StaysAlive → Goes does (behind_sync v how found) (joined_phase (record v { receives = n }) how found) old new
  sync_goes how None alive = alive v [] (Receives (ToJoin how)) refl
  sync_goes Fresh (Some found) alive = alive v [] Begins refl
  sync_goes Whole (Some found) alive = alive v [] Begins refl
  sync_goes Resume (Some found) alive = alive (after_giving v) (unsent v.replica) (TellsText (rejoined_line found.joined found.from)) refl

  pub sync_stops : (how : How) (found : Option Synced) (end : ViewEnd) → StopsAlive end → Stops does (behind_sync v how found) end old new
  sync_stops how None end alive = alive v [] (Receives (ToJoin how)) refl
  sync_stops Fresh (Some found) end alive = alive v [] Begins refl
  sync_stops Whole (Some found) end alive = alive v [] Begins refl
  sync_stops Resume (Some found) end alive = alive (after_giving v) (unsent v.replica) (TellsText (rejoined_line found.joined found.from)) refl

  pub entry_goes : (at : ℕ) (comes : Bool) → StaysAlive → Goes does (voted_phase v at comes) (entry_phase (record v { receives = n }) at comes) old new
  entry_goes at true alive = alive (after_giving v) (unsent v.replica) (TellsText (voted_line at (published_count v.replica))) refl
  entry_goes at false alive = alive v [] (Receives (ToSee at)) refl

  pub entry_stops : (at : ℕ) (comes : Bool) (end : ViewEnd) → StopsAlive end → Stops does (voted_phase v at comes) end old new
  entry_stops at true end alive = alive (after_giving v) (unsent v.replica) (TellsText (voted_line at (published_count v.replica))) refl
  entry_stops at false end alive = alive v [] (Receives (ToSee at)) refl

-- a run, and then why it stopped
pub goes_and_hears : {S : Type 0} (does : Doing S) (follows : Follows does) (why : Stop) (from mid : Phase) (v : Viewer) (aim : Aim) (old now new : S) → Goes does from mid old now → StopsHearing does why mid v aim now new → StopsHearing does why from v aim old new
goes_and_hears does follows (stop.End end) from mid v aim old now new first then_stops = goes_and_stops does follows from mid end old now new first then_stops
goes_and_hears does follows stop.BadBase from mid v aim old now new first then_stops = goes_on does follows from mid (bad_base v aim) old now new first then_stops

-- and whatever is answered
pub goes_or_hears : {S A : Type 0} (does : Doing S) (follows : Follows does) (from mid : Phase) (to : A → Phase) (v : Viewer) (aim : Aim) (r : Result A Stop) (old now new : S) → Goes does from mid old now
    → MatchResult r (λ a. Goes does mid (to a) now new) (λ why. StopsHearing does why mid v aim now new) → MatchResult r (λ a. Goes does from (to a) old new) (λ why. StopsHearing does why from v aim old new)
goes_or_hears does follows from mid to v aim (Ok a) old now new first goes = goes_on does follows from mid (to a) old now new first goes
goes_or_hears does follows from mid to v aim (Err why) old now new first stops = goes_and_hears does follows why from mid v aim old now new first stops

-- the same, said of one link
pub hears_as : {L : Type 0} (links : LinksTell L) (why : Stop) (from : Phase) (v : Viewer) (aim : Aim) (old new : L) → StopsHearing (LinkActs links) why from v aim old new → StopsHearing (LinkActs links) why from v aim old new
hears_as links why from v aim old new stops = stops
