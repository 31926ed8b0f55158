-- What a caller offers is a SNAP that its link was heard to say.
use Rattle.std.proofs.Common.{◌≡◌, ℕ, ◌+◌, ◌==◌, Bool, true, false, List, [], ◌∷◌, ◌++◌, Option, Some, None, Result, Ok, Err, if◌then◌else◌, inl, inr, refl, sym, subst}
use Rattle.std.specs.List.{AllByRecursion}
use Rattle.byte_fields.specs.Fields.{whole}
use Rattle.tea_base.specs.declared.entry.SessionId.{SessionId}
use Rattle.tea_io.specs.declared.link.Heard.{Heard}
use Rattle.tea_io.specs.declared.link.Heard.TheVariants as said
use Rattle.tea_io.specs.Links.{most_quiets}
use Rattle.wire_frames.specs.Reading.{client_at}
use Rattle.wire_frames.specs.Spelling.{client_spelling}
use Rattle.wire_frames.specs.declared.frame.ClientFrame.{ClientFrame}
use Rattle.wire_frames.specs.declared.frame.ClientFrame.TheVariants as client
use Rattle.wire_frames.specs.declared.frame.ServerFrame.{ServerFrame}
use Rattle.reflector_core.specs.declared.request.Request.{Request}
use Rattle.reflector_core.specs.declared.request.Request.TheVariants as request
use Rattle.join_sync.specs.declared.cursor.Cursor.{Cursor}
use Rattle.join_sync.specs.declared.early.Early.{Early}
use Rattle.join_sync.specs.Answers.{first_cursor, join_answer, answer_frame}
use Rattle.join_sync.specs.Batches.{next_cursor, next_frames}
use Rattle.join_sync.specs.Requests.{IsJoin, first_request}
use Rattle.system_plain.specs.Turn.{answer_frames, joined_view, open_act}
use Rattle.connection.specs.declared.ending.Ended.{Ended}
use Rattle.connection.specs.declared.ending.Ended.TheVariants as ended
use Rattle.connection.specs.Exchanges.{Exchange, Answered, Unanswered}
use Rattle.connection.specs.TalkServed.{frames_of}
use Rattle.connection.specs.Phases.{TalkPhase, Opening, Beginning, Joining, Ticking, Pulling, Hearing, Taking, Asking, Sending, Leaving, Over, TalkEvent, Hears, Reads, MakesRequest, MakesAt, Misses, Sends, Loses, FailsToSend, Wants, answered_by, end_in, entered_phase, greeted_phase, heard_in, opened_phase, read_phase, sending_phase, talk_step, talk_walk}
use Rattle.byte_fields.proofs.Codecs.{whole_again}
use Rattle.wire_frames.proofs.ClientCodec.{client_codec}
use Rattle.connection.proofs.Callers.{first_is_join}
use Rattle.view_follows.specs.Sessions.{ComesFrom, frames_heard}

abbrev IsNoSnap : Option ClientFrame → Type 0
IsNoSnap (Some (client.Snap time bytes)) = ⊥
IsNoSnap other = Unit {0}

is_no_snap : (time : ℕ) (snapshot : List ℕ) → whole client_at (client_spelling client.Alive) ≡ Some (client.Snap time snapshot) → ⊥
is_no_snap time snapshot read = subst IsNoSnap read (subst IsNoSnap (sym (whole_again client_codec client.Alive (tt, tt))) tt)

-- Good: of the time and the bytes of a snapshot
module _ (Good : ℕ → List ℕ → Type 0) where
  -- where the bytes are read as a SNAP, it is a good one
  abbrev pub IsGoodFrame : List ℕ → Type 0
  IsGoodFrame sent = (time : ℕ) (bytes : List ℕ) → whole client_at sent ≡ Some (client.Snap time bytes) → Good time bytes

  alive_good : (bytes : List ℕ) → bytes ≡ client_spelling client.Alive → IsGoodFrame bytes
  alive_good bytes alive time snapshot read = absurd (is_no_snap time snapshot (subst (λ (b : List ℕ). whole client_at b ≡ Some (client.Snap time snapshot)) alive read))

  -- where all that was sent is good, so is all that was heard
  pub comes_good : (heard sent : List (List ℕ)) → ComesFrom heard sent → AllByRecursion IsGoodFrame sent → AllByRecursion IsGoodFrame heard
  comes_good [] sent comes good = tt
  comes_good (bytes ∷ heard) [] comes good = (alive_good bytes comes.0, comes_good heard [] comes.1 good)
  comes_good (bytes ∷ heard) (first ∷ sent) (inl alive) good = (alive_good bytes alive.0, comes_good heard (first ∷ sent) alive.1 good)
  comes_good (bytes ∷ heard) (first ∷ sent) (inr one) good = (subst IsGoodFrame (sym one.0) good.0, comes_good heard sent one.1 good.1)

  -- an Offer is of a good one
  abbrev pub IsGoodRequest : Request → Type 0
  IsGoodRequest (request.Offer view joined time bytes) = Good time bytes
  IsGoodRequest other = Unit {0}

  abbrev pub IsGoodExchange : Exchange → Type 0
  IsGoodExchange (Answered asked given) = IsGoodRequest asked
  IsGoodExchange (Unanswered why) = Unit {0}

  -- the frame that is to be read, or the request that is to be made, is good
  abbrev IsGoodPhase : TalkPhase → Type 0
  IsGoodPhase (Joining asked) = IsGoodRequest asked
  IsGoodPhase (Taking cursor bytes) = IsGoodFrame bytes
  IsGoodPhase (Asking cursor asked) = IsGoodRequest asked
  IsGoodPhase (Sending frame frames next fails wants) = IsGoodPhase next × IsGoodPhase fails × IsGoodPhase wants
  IsGoodPhase other = Unit {0}

  abbrev IsGoodEvent : TalkEvent → Type 0
  IsGoodEvent (Hears (said.Frame bytes)) = IsGoodFrame bytes
  IsGoodEvent other = Unit {0}

  -- ---- phases

  if_good : (test : Bool) (p q : TalkPhase) → IsGoodPhase p → IsGoodPhase q → IsGoodPhase (if test then p else q)
  if_good true p q one other = one
  if_good false p q one other = other

  sending_good : (frames : List ServerFrame) (next fails wants : TalkPhase) → IsGoodPhase next → IsGoodPhase fails → IsGoodPhase wants → IsGoodPhase (sending_phase frames next fails wants)
  sending_good [] next fails wants good failing wanting = good
  sending_good (frame ∷ frames) next fails wants good failing wanting = (good, failing, wanting)

  join_good : (asked : Request) → IsJoin asked → IsGoodRequest asked
  join_good (request.Join view now want) is = tt
  join_good (request.Send view joined number payload now) is = absurd is
  join_good (request.Tick now) is = absurd is
  join_good (request.Leave view joined now) is = absurd is
  join_good (request.Offer view joined time bytes) is = absurd is
  join_good (request.Pull after limit) is = absurd is

  entered_good : (id : SessionId) (frame : ClientFrame) (now : ℕ) (r : Result Request Early) → first_request frame id now ≡ r → IsGoodPhase (entered_phase (open_act frame r))
  entered_good id frame now (Ok asked) is = join_good asked (first_is_join frame id now asked is)
  entered_good id frame now (Err early) is = (tt, tt, tt)

  opened_good : (id : SessionId) (frame : Option ClientFrame) (now : ℕ) → IsGoodPhase (opened_phase id frame now)
  opened_good id None now = (tt, tt, tt)
  opened_good id (Some frame) now = entered_good id frame now (first_request frame id now) refl

  greeted_good : (cursor : Option Cursor) (told : Option ServerFrame) → IsGoodPhase (greeted_phase cursor told)
  greeted_good (Some cursor) (Some frame) = (tt, tt, tt)
  greeted_good None (Some frame) = (tt, tt, tt)
  greeted_good (Some cursor) None = tt
  greeted_good None None = tt

  answered_good : (cursor : Cursor) (how : Option Ended) (frames : List ServerFrame) → IsGoodPhase (answered_by cursor how frames)
  answered_good cursor (Some how) frames = sending_good frames (Over how) (Over how) (Leaving cursor ended.WantOfMemory) tt tt tt
  answered_good cursor None frames = sending_good frames (Ticking cursor 0) (Leaving cursor ended.LinkFault) (Leaving cursor ended.WantOfMemory) tt tt tt

  read_good : (cursor : Cursor) (bytes : List ℕ) (found : Option ClientFrame) (now : ℕ) → IsGoodFrame bytes → whole client_at bytes ≡ found → IsGoodPhase (read_phase cursor found now)
  read_good cursor bytes None now good is = (tt, tt, tt)
  read_good cursor bytes (Some (client.Join session view want)) now good is = (tt, tt, tt)
  read_good cursor bytes (Some (client.Send number payload)) now good is = tt
  read_good cursor bytes (Some (client.Snap time snapshot)) now good is = good time snapshot is
  read_good cursor bytes (Some client.Leave) now good is = tt
  read_good cursor bytes (Some client.Alive) now good is = (tt, tt, tt)

  -- ---- one event, and all

  step_good : (id : SessionId) (p : TalkPhase) (event : TalkEvent) → IsGoodPhase p → IsGoodEvent event → IsGoodPhase (talk_step id p event).phase × AllByRecursion IsGoodExchange (talk_step id p event).asked
  step_good id (Opening quiets) (Hears (said.Frame bytes)) good heard = (tt, tt)
  step_good id (Opening quiets) (Hears said.Quiet) good heard = (if_good (quiets + 1 == most_quiets) (Over (ended.Idle most_quiets)) (Opening (quiets + 1)) tt tt, tt)
  step_good id (Opening quiets) (Hears said.End) good heard = (tt, tt)
  step_good id (Opening quiets) (Hears said.Failed) good heard = (tt, tt)
  step_good id (Opening quiets) (Hears said.WantOfMemory) good heard = (tt, tt)
  step_good id (Beginning bytes) (Reads now) good heard = (opened_good id (whole client_at bytes) now, tt)
  step_good id (Beginning bytes) Wants good heard = (tt, tt)
  step_good id (Joining asked) (MakesRequest given) good heard = (greeted_good (first_cursor (joined_view asked) given) (join_answer given), (good, tt))
  step_good id (Joining asked) (Misses why) good heard = (tt, (tt, tt))
  step_good id (Ticking cursor quiets) (MakesAt now given) good heard = (tt, (tt, tt))
  step_good id (Ticking cursor quiets) (Misses why) good heard = (tt, (tt, tt))
  step_good id (Pulling cursor quiets) (MakesRequest given) good heard =
      (sending_good (next_frames cursor given) (Hearing (next_cursor cursor given) quiets) (Leaving cursor ended.LinkFault) (Leaving cursor ended.WantOfMemory) tt tt tt, (tt, tt))
  step_good id (Pulling cursor quiets) (Misses why) good heard = (tt, (tt, tt))
  step_good id (Hearing cursor quiets) (Hears (said.Frame bytes)) good heard = (heard, tt)
  step_good id (Hearing cursor quiets) (Hears said.Quiet) good heard = (if_good (quiets + 1 == most_quiets) (Leaving cursor (ended.Idle most_quiets)) (Ticking cursor (quiets + 1)) tt tt, tt)
  step_good id (Hearing cursor quiets) (Hears said.End) good heard = (tt, tt)
  step_good id (Hearing cursor quiets) (Hears said.Failed) good heard = (tt, tt)
  step_good id (Hearing cursor quiets) (Hears said.WantOfMemory) good heard = (tt, tt)
  step_good id (Taking cursor bytes) (Reads now) good heard = (read_good cursor bytes (whole client_at bytes) now good refl, tt)
  step_good id (Taking cursor bytes) Wants good heard = (tt, tt)
  step_good id (Asking cursor asked) (MakesRequest given) good heard = (answered_good cursor (end_in given) (answer_frames (answer_frame asked given)), (good, tt))
  step_good id (Asking cursor asked) (Misses why) good heard = (tt, (tt, tt))
  step_good id (Sending frame frames next fails wants) Sends good heard = (sending_good frames next fails wants good.0 good.1 good.2, tt)
  step_good id (Sending frame frames next fails wants) Loses good heard = (good.1, tt)
  step_good id (Sending frame frames next fails wants) FailsToSend good heard = (good.1, tt)
  step_good id (Sending frame frames next fails wants) Wants good heard = (good.2, tt)
  step_good id (Leaving cursor how) (MakesAt now given) good heard = (tt, (tt, tt))
  step_good id (Leaving cursor how) (Misses why) good heard = (tt, (tt, tt))
  step_good id p event good heard = (tt, tt)

  -- the first event of those that were heard
  first_good : (event : TalkEvent) (events : List TalkEvent) → AllByRecursion IsGoodFrame (frames_heard (heard_in (event ∷ events))) → IsGoodEvent event × AllByRecursion IsGoodFrame (frames_heard (heard_in events))
  first_good (Hears (said.Frame bytes)) events good = good
  first_good (Hears said.Quiet) events good = (tt, good)
  first_good (Hears said.End) events good = (tt, good)
  first_good (Hears said.Failed) events good = (tt, good)
  first_good (Hears said.WantOfMemory) events good = (tt, good)
  first_good event events good = (tt, good)

  both_good : (first rest : List Exchange) → AllByRecursion IsGoodExchange first → AllByRecursion IsGoodExchange rest → AllByRecursion IsGoodExchange (first ++ rest)
  both_good [] rest one other = other
  both_good (exchange ∷ first) rest one other = (one.0, both_good first rest one.1 other)

  walk_good : (id : SessionId) (p : TalkPhase) (events : List TalkEvent) → IsGoodPhase p → AllByRecursion IsGoodFrame (frames_heard (heard_in events)) → AllByRecursion IsGoodExchange (talk_walk id p events).asked
  walk_good id p [] good heard = tt
  walk_good id p (event ∷ events) good heard =
      let first = first_good event events heard in
      let step = step_good id p event good first.0 in
      both_good (talk_step id p event).asked (talk_walk id (talk_step id p event).phase events).asked step.1 (walk_good id (talk_step id p event).phase events step.0 first.1)

  -- each Offer of a talk is good, where each SNAP is that was heard in it
  pub talk_is_good : (id : SessionId) (events : List TalkEvent) → AllByRecursion IsGoodFrame (frames_heard (heard_in events)) → AllByRecursion IsGoodExchange (talk_walk id (Opening 0) events).asked
  talk_is_good id events heard = walk_good id (Opening 0) events tt heard

  -- ---- frames that were heard

  abbrev pub IsGoodOffer : Option ClientFrame → Type 0
  IsGoodOffer frame = (time : ℕ) (bytes : List ℕ) → frame ≡ Some (client.Snap time bytes) → Good time bytes

  -- where the bytes are good that were heard, so are the frames
  pub good_frames : (heard : List Heard) → AllByRecursion IsGoodFrame (frames_heard heard) → AllByRecursion IsGoodOffer (frames_of heard)
  good_frames [] good = tt
  good_frames (said.Frame bytes ∷ rest) good = (good.0, good_frames rest good.1)
  good_frames (said.Quiet ∷ rest) good = good_frames rest good
  good_frames (said.End ∷ rest) good = good_frames rest good
  good_frames (said.Failed ∷ rest) good = good_frames rest good
  good_frames (said.WantOfMemory ∷ rest) good = good_frames rest good
