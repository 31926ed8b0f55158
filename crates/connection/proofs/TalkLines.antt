-- Each talk is served by the log of its history.
use Rattle.std.proofs.Common.{◌≡◌, ℕ, ◌+◌, ◌==◌, Bool, true, false, if◌then◌else◌, List, [], ◌∷◌, ◌++◌, Option, Some, None, Result, Ok, Err, refl, sym, ap, ◌∙◌, subst, append_assoc}
use Rattle.std.specs.Prelude.{is_none}
use Rattle.std.proofs.lemmas.List.{append-nil}
use Rattle.byte_fields.specs.Fields.{whole}
use Rattle.tea_base.specs.declared.entry.SessionId.{SessionId}
use Rattle.tea_io.specs.declared.link.Heard.{Heard}
use Rattle.tea_io.specs.declared.link.Heard.TheVariants as heard
use Rattle.tea_io.specs.Links.{most_quiets}
use Rattle.wire_frames.specs.Reading.{client_at}
use Rattle.wire_frames.specs.Served.{Served}
use Rattle.wire_frames.specs.declared.frame.ClientFrame.{ClientFrame}
use Rattle.wire_frames.specs.declared.frame.ServerFrame.{ServerFrame}
use Rattle.reflector_core.specs.PlainSession.{PlainSession}
use Rattle.reflector_core.specs.Answer.{answer}
use Rattle.reflector_core.specs.declared.keeper.CallFault.{CallFault}
use Rattle.reflector_core.specs.declared.request.Reply.{Reply}
use Rattle.reflector_core.specs.declared.request.Reply.TheVariants as reply
use Rattle.reflector_core.specs.declared.request.Refusal.{Refusal}
use Rattle.reflector_core.specs.declared.request.Refusal.TheVariants as refusal
use Rattle.reflector_core.specs.declared.request.Request.{Request}
use Rattle.reflector_core.specs.declared.request.Request.TheVariants as request
use Rattle.session_lock.specs.declared.knowledge.Item.{Item}
use Rattle.session_lock.specs.History.{play_from, IsSoundThrough}
use Rattle.session_lock.proofs.Histories.{sound_start}
use Rattle.join_sync.specs.declared.act.Act.{Act}
use Rattle.join_sync.specs.declared.act.Act.TheVariants.{Call, Answer}
use Rattle.join_sync.specs.declared.cursor.Cursor.{Cursor}
use Rattle.join_sync.specs.declared.early.Early.{Early}
use Rattle.join_sync.specs.Answers.{answer_frame, first_cursor, join_answer}
use Rattle.join_sync.specs.Batches.{most_pulled, next_cursor, next_frames}
use Rattle.join_sync.specs.Refusals.{early_frame}
use Rattle.join_sync.specs.Requests.{act_on, first_request}
use Rattle.system_plain.specs.ConnectionLine.{ConnectionLine, after_turn, after_turns, first_line, hears}
use Rattle.system_plain.specs.ConnectionLine as line
use Rattle.system_plain.specs.Turn.{answer_frames, ends_connection, joined_view, open_act, unread_frame}
use Rattle.system_plain.proofs.Lines.{served_by}
use Rattle.system_plain.proofs.Turns.{hears_act, hears_first}
use Rattle.connection.specs.declared.ending.Ended.{Ended}
use Rattle.connection.specs.declared.ending.Ended.TheVariants as ended
use Rattle.connection.specs.Exchanges.{Answered, Unanswered, exchanges_from}
use Rattle.connection.specs.Phases.{TalkPhase, Opening, Beginning, Joining, Ticking, Pulling, Hearing, Taking, Asking, Sending, Leaving, Over, Wrong, TalkEvent, Hears, Reads, MakesRequest, MakesAt, Misses, Sends, Loses, FailsToSend, Wants, answered_by, acted_phase, code_in, end_in, ended_by, ending_phase, entered_phase, greeted_phase, heard_in, hearing_row, join_phase, opened_phase, opening_row, pulled_phase, read_phase, reply_phase, sending_phase, talk_walk}
use Rattle.connection.specs.Talk.{Talk}
use Rattle.connection.specs.TalkServed.{IsTalkServed, IsToldWithin, frames_of}
use Rattle.connection.proofs.Lines.{IsLine, at_session, hears_is, misses, others_end, pull_nothing, pulls_is, reaches, turn_to}
use Rattle.connection.proofs.ServedFronts.{served_front}
use Rattle.connection.proofs.Ticks.{line_ticks}

-- ---- where a line stands beside a phase

-- it has heard all that was given, and all that it sent was sent
record IsEven (l : ConnectionLine) (cursor : Option Cursor) (given : List (Option ClientFrame)) (sent : List ServerFrame) : Type 0 where
  at : l.cursor ≡ cursor
  clear : l.over ≡ false
  given_is : given ≡ l.given
  sent_is : sent ≡ l.sent

-- it is still to hear this frame
record IsToHear (l : ConnectionLine) (cursor : Option Cursor) (frame : Option ClientFrame) (given : List (Option ClientFrame)) (sent : List ServerFrame) : Type 0 where
  at : l.cursor ≡ cursor
  clear : l.over ≡ false
  given_is : given ≡ l.given ++ frame ∷ []
  sent_is : sent ≡ l.sent

-- it may be behind in what it heard, and have sent more
record IsPart (l : ConnectionLine) (given : List (Option ClientFrame)) (sent : List ServerFrame) : Type 0 where
  unheard : List (Option ClientFrame)
  given_is : given ≡ l.given ++ unheard
  unsent : List ServerFrame
  sent_is : l.sent ≡ sent ++ unsent

abbrev SaysNothing : TalkPhase → Type 0
SaysNothing (Leaving cursor how) = Unit {0}
SaysNothing (Over how) = Unit {0}
SaysNothing other = ⊥

abbrev Beside : SessionId → ConnectionLine → List (Option ClientFrame) → List ServerFrame → TalkPhase → Type 0
Beside id l given sent (Opening quiets) = IsEven l None given sent
Beside id l given sent (Beginning bytes) = IsToHear l None (whole client_at bytes) given sent
Beside id l given sent (Joining asked) = (frame : ClientFrame) × (now : ℕ) × (first_request frame id now ≡ Ok asked) × IsToHear l None (Some frame) given sent
Beside id l given sent (Ticking cursor quiets) = IsEven l (Some cursor) given sent
Beside id l given sent (Pulling cursor quiets) = IsEven l (Some cursor) given sent
Beside id l given sent (Hearing cursor quiets) = IsEven l (Some cursor) given sent
Beside id l given sent (Taking cursor bytes) = IsToHear l (Some cursor) (whole client_at bytes) given sent
Beside id l given sent (Asking cursor asked) = (frame : ClientFrame) × (now : ℕ) × (act_on cursor frame now ≡ Call asked) × IsToHear l (Some cursor) (Some frame) given sent
Beside id l given sent (Sending frame frames next fails wants) =
    (l.sent ≡ sent ++ frame ∷ frames) × (given ≡ l.given) × Beside id l given l.sent next × SaysNothing fails × SaysNothing wants
Beside id l given sent (Leaving cursor how) = IsPart l given sent
Beside id l given sent (Over how) = IsPart l given sent
Beside id l given sent Wrong = Unit {0}

even_part : (l : ConnectionLine) (cursor : Option Cursor) (given : List (Option ClientFrame)) (sent : List ServerFrame) → IsEven l cursor given sent → IsPart l given sent
even_part l cursor given sent e = record { unheard = []; given_is = e.given_is ∙ sym (append-nil l.given); unsent = []; sent_is = sym e.sent_is ∙ sym (append-nil sent) }

hear_part : (l : ConnectionLine) (cursor : Option Cursor) (frame : Option ClientFrame) (given : List (Option ClientFrame)) (sent : List ServerFrame) → IsToHear l cursor frame given sent → IsPart l given sent
hear_part l cursor frame given sent h = record { unheard = frame ∷ []; given_is = h.given_is; unsent = []; sent_is = sym h.sent_is ∙ sym (append-nil sent) }

-- all that it sent was sent
part_whole : (l : ConnectionLine) (given : List (Option ClientFrame)) → given ≡ l.given → IsPart l given l.sent
part_whole l given is = record { unheard = []; given_is = is ∙ sym (append-nil l.given); unsent = []; sent_is = sym (append-nil l.sent) }

part_beside : (id : SessionId) (l : ConnectionLine) (given : List (Option ClientFrame)) (sent : List ServerFrame) (p : TalkPhase) → SaysNothing p → IsPart l given sent → Beside id l given sent p
part_beside id l given sent (Leaving cursor how) says part = part
part_beside id l given sent (Over how) says part = part
part_beside id l given sent p says part = absurd says

sending_beside : (id : SessionId) (l : ConnectionLine) (given : List (Option ClientFrame)) (sent : List ServerFrame) (frames : List ServerFrame) (next fails wants : TalkPhase)
    → l.sent ≡ sent ++ frames → given ≡ l.given → Beside id l given l.sent next → SaysNothing fails → SaysNothing wants → Beside id l given sent (sending_phase frames next fails wants)
sending_beside id l given sent [] next fails wants is same beside failing wanting =
    subst (λ (s : List ServerFrame). Beside id l given s next) (is ∙ append-nil sent) beside
sending_beside id l given sent (frame ∷ frames) next fails wants is same beside failing wanting = (is, same, beside, failing, wanting)

ending_beside : (id : SessionId) (l : ConnectionLine) (given : List (Option ClientFrame)) (sent frames : List ServerFrame) (how : Ended) (wants : TalkPhase) → SaysNothing wants → l.sent ≡ sent ++ frames → given ≡ l.given
    → Beside id l given sent (ending_phase frames how wants)
ending_beside id l given sent frames how wants says is same = sending_beside id l given sent frames (Over how) (Over how) wants is same (part_whole l given same) tt says

-- ---- what is left of a talk

record Remains (id : SessionId) (p : TalkPhase) (events : List TalkEvent) (s : PlainSession) (history : List Item) (caller : ℕ) (final : PlainSession) (how : Ended) : Type 0 where
  sound : IsSoundThrough s history
  ends : play_from s history ≡ final
  asked : exchanges_from s caller history ≡ (talk_walk id p events).asked
  over : (talk_walk id p events).phase ≡ Over how

abbrev Onwards : SessionId → List TalkEvent → ℕ → PlainSession → Ended → Type 0
Onwards id events caller final how =
    (p : TalkPhase) (l : ConnectionLine) (history : List Item) (given : List (Option ClientFrame)) (sent : List ServerFrame) → Remains id p events l.session history caller final how
    → Beside id l given sent p → IsLine id l final (given ++ frames_of (heard_in events)) (sent ++ (talk_walk id p events).sent)

wrong_stays : (id : SessionId) (events : List TalkEvent) → (talk_walk id Wrong events).phase ≡ Wrong
wrong_stays id [] = refl
wrong_stays id (event ∷ events) = wrong_stays id events

never_over : (id : SessionId) (events : List TalkEvent) (how : Ended) → (talk_walk id Wrong events).phase ≡ Over how → ⊥
never_over id events how is = let wrong : Wrong ≡ Over how = sym (wrong_stays id events) ∙ is in cc (wrong)

-- one frame more was heard
heard_more : (id : SessionId) (l : ConnectionLine) (final : PlainSession) (given : List (Option ClientFrame)) (frame : Option ClientFrame) (rest : List (Option ClientFrame)) (sent : List ServerFrame)
    → IsLine id l final ((given ++ frame ∷ []) ++ rest) sent → IsLine id l final (given ++ frame ∷ rest) sent
heard_more id l final given frame rest sent h = subst (λ (g : List (Option ClientFrame)). IsLine id l final g sent) (append_assoc given (frame ∷ []) rest) h

sent_more : (id : SessionId) (l : ConnectionLine) (final : PlainSession) (given : List (Option ClientFrame)) (sent : List ServerFrame) (frame : ServerFrame) (rest : List ServerFrame)
    → IsLine id l final given ((sent ++ frame ∷ []) ++ rest) → IsLine id l final given (sent ++ frame ∷ rest)
sent_more id l final given sent frame rest h = subst (λ (s : List ServerFrame). IsLine id l final given s) (append_assoc sent (frame ∷ []) rest) h

-- ---- frames that are read

-- the frame is heard by the line, whose session stays
record HeardBy (id : SessionId) (l next : ConnectionLine) (cursor : Option Cursor) (frame : Option ClientFrame) (now : ℕ) (given : List (Option ClientFrame)) (sent : List ServerFrame) (p : TalkPhase) : Type 0 where
  is : hears id l cursor frame now ≡ next
  same : next.session ≡ l.session
  beside : Beside id next given sent p

-- the line stays, or it hears the frame
data ReadingGoes (id : SessionId) (l : ConnectionLine) (cursor : Option Cursor) (frame : Option ClientFrame) (now : ℕ) (given : List (Option ClientFrame)) (sent : List ServerFrame) (p : TalkPhase) : Type 0 where
  Stays : Beside id l given sent p → ReadingGoes id l cursor frame now given sent p
  Turns : (next : ConnectionLine) → HeardBy id l next cursor frame now given sent p → ReadingGoes id l cursor frame now given sent p

entered_goes : (id : SessionId) (l : ConnectionLine) (frame : ClientFrame) (now : ℕ) (given : List (Option ClientFrame)) (sent : List ServerFrame) (r : Result Request Early) → first_request frame id now ≡ r
    → IsToHear l None (Some frame) given sent → ReadingGoes id l None (Some frame) now given sent (entered_phase (open_act frame r))
entered_goes id l frame now given sent (Ok asked) is h = Stays (frame, now, is, h)
entered_goes id l frame now given sent (Err early) is h =
    let next : ConnectionLine = record { session = l.session; cursor = None; over = true; given = l.given ++ Some frame ∷ []; sent = l.sent ++ early_frame early frame ∷ [] } in
    Turns next (record {
      is = ap (λ (r : Result Request Early). hears_first l frame r) is;
      same = refl;
      beside = ending_beside id next given sent (early_frame early frame ∷ []) (ended.Refused (code_in (early_frame early frame))) (Over ended.WantOfMemory) tt (ap (λ (s : List ServerFrame). s ++ early_frame early frame ∷ []) (sym h.sent_is)) h.given_is;
    })

opened_goes : (id : SessionId) (l : ConnectionLine) (frame : Option ClientFrame) (now : ℕ) (given : List (Option ClientFrame)) (sent : List ServerFrame) → IsToHear l None frame given sent
    → ReadingGoes id l None frame now given sent (opened_phase id frame now)
opened_goes id l None now given sent h =
    let next : ConnectionLine = record { session = l.session; cursor = None; over = true; given = l.given ++ None ∷ []; sent = l.sent ++ unread_frame ∷ [] } in
    Turns next (record {
      is = refl;
      same = refl;
      beside = ending_beside id next given sent (unread_frame ∷ []) (ended.Refused (code_in unread_frame)) (Over ended.WantOfMemory) tt (ap (λ (s : List ServerFrame). s ++ unread_frame ∷ []) (sym h.sent_is)) h.given_is;
    })
opened_goes id l (Some frame) now given sent h = entered_goes id l frame now given sent (first_request frame id now) refl h

-- a later frame is answered, and nothing asked
told_goes : (id : SessionId) (l : ConnectionLine) (cursor : Cursor) (frame : Option ClientFrame) (now : ℕ) (given : List (Option ClientFrame)) (sent : List ServerFrame) (told : ServerFrame)
    → hears id l (Some cursor) frame now ≡ hears_act l cursor frame (Answer told) → IsToHear l (Some cursor) frame given sent
    → ReadingGoes id l (Some cursor) frame now given sent (acted_phase cursor (Answer told))
told_goes id l cursor frame now given sent told is h =
    let next : ConnectionLine = record { session = l.session; cursor = Some cursor; over = false; given = l.given ++ frame ∷ []; sent = l.sent ++ told ∷ [] } in
    Turns next (record {
      is = is;
      same = refl;
      beside =
          sending_beside id next given sent (told ∷ []) (Ticking cursor 0) (Leaving cursor ended.LinkFault) (Leaving cursor ended.WantOfMemory)
          (ap (λ (s : List ServerFrame). s ++ told ∷ []) (sym h.sent_is)) h.given_is (record { at = refl; clear = refl; given_is = h.given_is; sent_is = refl }) tt tt;
    })

acted_goes : (id : SessionId) (l : ConnectionLine) (cursor : Cursor) (frame : ClientFrame) (now : ℕ) (given : List (Option ClientFrame)) (sent : List ServerFrame) (a : Act) → act_on cursor frame now ≡ a
    → IsToHear l (Some cursor) (Some frame) given sent → ReadingGoes id l (Some cursor) (Some frame) now given sent (acted_phase cursor a)
acted_goes id l cursor frame now given sent (Call asked) is h = Stays (frame, now, is, h)
acted_goes id l cursor frame now given sent (Answer told) is h = told_goes id l cursor (Some frame) now given sent told (ap (λ (a : Act). hears_act l cursor (Some frame) a) is) h

taken_goes : (id : SessionId) (l : ConnectionLine) (cursor : Cursor) (frame : Option ClientFrame) (now : ℕ) (given : List (Option ClientFrame)) (sent : List ServerFrame) → IsToHear l (Some cursor) frame given sent
    → ReadingGoes id l (Some cursor) frame now given sent (read_phase cursor frame now)
taken_goes id l cursor None now given sent h = told_goes id l cursor None now given sent unread_frame refl h
taken_goes id l cursor (Some frame) now given sent h = acted_goes id l cursor frame now given sent (act_on cursor frame now) refl h

-- and the talk goes on from there
reads_on : (id : SessionId) (events : List TalkEvent) (caller : ℕ) (final : PlainSession) (how : Ended) (p : TalkPhase) (l : ConnectionLine) (history : List Item) (cursor : Option Cursor) (frame : Option ClientFrame) (now : ℕ)
    (given : List (Option ClientFrame)) (sent : List ServerFrame) → Onwards id events caller final how → Remains id p events l.session history caller final how → IsToHear l cursor frame given sent
    → ReadingGoes id l cursor frame now given sent p → IsLine id l final (given ++ frames_of (heard_in events)) (sent ++ (talk_walk id p events).sent)
reads_on id events caller final how p l history cursor frame now given sent next remains h (Stays beside) = next p l history given sent remains beside
reads_on id events caller final how p l history cursor frame now given sent next remains h (Turns behind heard_so) =
    turn_to id l (line.Hears frame now) behind final (given ++ frames_of (heard_in events)) (sent ++ (talk_walk id p events).sent) (sound_start l.session history remains.sound)
    (hears_is id l cursor frame now h.clear h.at ∙ heard_so.is)
    (next p behind history given sent (subst (λ (s : PlainSession). Remains id p events s history caller final how) (sym heard_so.same) remains) heard_so.beside)

-- ---- requests that are answered

greeted_beside : (id : SessionId) (s : PlainSession) (cursor : Option Cursor) (told : Option ServerFrame) (given : List (Option ClientFrame)) (sent : List ServerFrame)
    → Beside id (record { session = s; cursor = cursor; over = is_none cursor; given = given; sent = sent ++ answer_frames told }) given sent (greeted_phase cursor told)
greeted_beside id s (Some cursor) (Some frame) given sent =
    (refl, refl, record { at = refl; clear = refl; given_is = refl; sent_is = refl }, tt, tt)
greeted_beside id s None (Some frame) given sent = ending_beside id (record { session = s; cursor = None; over = true; given = given; sent = sent ++ frame ∷ [] }) given sent (frame ∷ []) (ended.Refused (code_in frame)) (Over ended.WantOfMemory) tt refl refl
greeted_beside id s (Some cursor) None given sent = tt
greeted_beside id s None None given sent = tt

-- what does not end a connection leaves its line to go on
refused_open : (r : Refusal) → end_in (reply.Refused r) ≡ None → ends_connection (reply.Refused r) ≡ false
refused_open (refusal.Stale current) is = absurd (cc (is))
refused_open (refusal.TooLong len) is = refl
refused_open (refusal.Differs seq) is = refl
refused_open (refusal.Gap expected) is = refl
refused_open (refusal.LogFull entries bytes) is = refl
refused_open (refusal.TimeEnd horizon) is = refl
refused_open (refusal.ViewsFull here) is = refl
refused_open refusal.BadView is = refl
refused_open (refusal.Ahead horizon) is = refl
refused_open (refusal.Older kept) is = refl
refused_open (refusal.NoSuchSeq len) is = refl

stays_open : (r : Reply) → end_in r ≡ None → ends_connection r ≡ false
stays_open (reply.Joined seq time last from base) is = refl
stays_open (reply.Stamped seq time) is = refl
stays_open (reply.Again seq time) is = refl
stays_open (reply.Ticked time) is = refl
stays_open (reply.Left seq time) is = absurd (cc (is))
stays_open reply.Kept is = refl
stays_open (reply.Batch entries tick) is = refl
stays_open (reply.Refused r) is = refused_open r is

answered_beside : (id : SessionId) (s : PlainSession) (cursor : Cursor) (over : Bool) (end : Option Ended) (frames : List ServerFrame) (given : List (Option ClientFrame)) (sent : List ServerFrame) → (end ≡ None → over ≡ false)
    → Beside id (record { session = s; cursor = Some cursor; over = over; given = given; sent = sent ++ frames }) given sent (answered_by cursor end frames)
answered_beside id s cursor over (Some how) frames given sent clear = ending_beside id (record { session = s; cursor = Some cursor; over = over; given = given; sent = sent ++ frames }) given sent frames how (Leaving cursor ended.WantOfMemory) tt refl refl
answered_beside id s cursor over None frames given sent clear =
    sending_beside id (record { session = s; cursor = Some cursor; over = over; given = given; sent = sent ++ frames }) given sent frames
    (Ticking cursor 0) (Leaving cursor ended.LinkFault) (Leaving cursor ended.WantOfMemory) refl refl (record { at = refl; clear = clear refl; given_is = refl; sent_is = refl }) tt tt

-- a call was answered on the way, and a turn of the line did the same
answers_on : (id : SessionId) (events : List TalkEvent) (caller : ℕ) (final : PlainSession) (how : Ended) (p : TalkPhase) (l : ConnectionLine) (history : List Item) (asked : Request) (replied : Reply) (turn : line.LineTurn)
    (given : List (Option ClientFrame)) (sent : List ServerFrame) → Onwards id events caller final how
    → IsSoundThrough l.session history → play_from l.session history ≡ final → exchanges_from l.session caller history ≡ Answered asked replied ∷ (talk_walk id p events).asked → (talk_walk id p events).phase ≡ Over how
    → ((at : PlainSession) → replied ≡ (answer at asked).reply → (after_turn id (at_session l at) turn).session ≡ (answer at asked).session)
    → ((at : PlainSession) → replied ≡ (answer at asked).reply → Beside id (after_turn id (at_session l at) turn) given sent p)
    → IsLine id l final (given ++ frames_of (heard_in events)) (sent ++ (talk_walk id p events).sent)
answers_on id events caller final how p l history asked replied turn given sent next sound ends is over same beside =
    reaches id history l caller final asked replied (talk_walk id p events).asked (given ++ frames_of (heard_in events)) (sent ++ (talk_walk id p events).sent) sound ends is
    (λ at items at_sound replied_so behind_sound behind_ends behind_asked.
    turn_to id (at_session l at) turn (after_turn id (at_session l at) turn) final (given ++ frames_of (heard_in events)) (sent ++ (talk_walk id p events).sent) at_sound refl
    (next p (after_turn id (at_session l at) turn) items given sent
    (subst (λ (s : PlainSession). Remains id p events s items caller final how) (sym (same at replied_so)) (record { sound = behind_sound; ends = behind_ends; asked = behind_asked; over = over }))
    (beside at replied_so)))

-- a call has no answer
misses_on : (id : SessionId) (why : CallFault) (events : List TalkEvent) (caller : ℕ) (final : PlainSession) (how : Ended) (p : TalkPhase) (l : ConnectionLine) (history : List Item)
    (given : List (Option ClientFrame)) (sent : List ServerFrame) → Onwards id events caller final how
    → IsSoundThrough l.session history → play_from l.session history ≡ final → exchanges_from l.session caller history ≡ Unanswered why ∷ (talk_walk id p events).asked → (talk_walk id p events).phase ≡ Over how
    → SaysNothing p → IsPart l given sent → IsLine id l final (given ++ frames_of (heard_in events)) (sent ++ (talk_walk id p events).sent)
misses_on id why events caller final how p l history given sent next sound ends is over says part =
    misses id why history l caller final (talk_walk id p events).asked (given ++ frames_of (heard_in events)) (sent ++ (talk_walk id p events).sent) sound ends is
    (λ at items behind_sound behind_ends behind_asked.
    next p (at_session l at) items given sent (record { sound = behind_sound; ends = behind_ends; asked = behind_asked; over = over })
    (part_beside id (at_session l at) given sent p says (record { unheard = part.unheard; given_is = part.given_is; unsent = part.unsent; sent_is = part.sent_is })))

-- ---- rows of Quiets

opening_quiet : (id : SessionId) (last : Bool) (l : ConnectionLine) (given : List (Option ClientFrame)) (sent : List ServerFrame) (quiets : ℕ) → IsEven l None given sent
    → Beside id l given sent (if last then Over (ended.Idle most_quiets) else Opening quiets)
opening_quiet id true l given sent quiets even = even_part l None given sent even
opening_quiet id false l given sent quiets even = even

hearing_quiet : (id : SessionId) (last : Bool) (l : ConnectionLine) (cursor : Cursor) (given : List (Option ClientFrame)) (sent : List ServerFrame) (quiets : ℕ) → IsEven l (Some cursor) given sent
    → Beside id l given sent (if last then Leaving cursor (ended.Idle most_quiets) else Ticking cursor quiets)
hearing_quiet id true l cursor given sent quiets even = even_part l (Some cursor) given sent even
hearing_quiet id false l cursor given sent quiets even = even

to_hear : (l : ConnectionLine) (cursor : Option Cursor) (frame : Option ClientFrame) (given : List (Option ClientFrame)) (sent : List ServerFrame) → IsEven l cursor given sent → IsToHear l cursor frame (given ++ frame ∷ []) sent
to_hear l cursor frame given sent e = record { at = e.at; clear = e.clear; given_is = ap (λ (g : List (Option ClientFrame)). g ++ frame ∷ []) e.given_is; sent_is = e.sent_is }

-- ---- one event

on : (id : SessionId) (p : TalkPhase) (event : TalkEvent) (events : List TalkEvent) (caller : ℕ) (final : PlainSession) (how : Ended) (l : ConnectionLine) (history : List Item) (given : List (Option ClientFrame)) (sent : List ServerFrame)
    → Onwards id events caller final how → Remains id p (event ∷ events) l.session history caller final how → Beside id l given sent p
    → IsLine id l final (given ++ frames_of (heard_in (event ∷ events))) (sent ++ (talk_walk id p (event ∷ events)).sent)
on id (Opening quiets) (Hears (heard.Frame bytes)) events caller final how l history given sent next r even =
    heard_more id l final given (whole client_at bytes) (frames_of (heard_in events)) (sent ++ (talk_walk id (Beginning bytes) events).sent)
    (next (Beginning bytes) l history (given ++ whole client_at bytes ∷ []) sent (record { sound = r.sound; ends = r.ends; asked = r.asked; over = r.over }) (to_hear l None (whole client_at bytes) given sent even))
on id (Opening quiets) (Hears heard.Quiet) events caller final how l history given sent next r even =
    next (opening_row (quiets + 1)) l history given sent (record { sound = r.sound; ends = r.ends; asked = r.asked; over = r.over }) (opening_quiet id (quiets + 1 == most_quiets) l given sent (quiets + 1) even)
on id (Opening quiets) (Hears heard.End) events caller final how l history given sent next r even =
    next (Over ended.LinkEnd) l history given sent (record { sound = r.sound; ends = r.ends; asked = r.asked; over = r.over }) (even_part l None given sent even)
on id (Opening quiets) (Hears heard.Failed) events caller final how l history given sent next r even =
    next (Over ended.LinkFault) l history given sent (record { sound = r.sound; ends = r.ends; asked = r.asked; over = r.over }) (even_part l None given sent even)
on id (Opening quiets) (Hears heard.WantOfMemory) events caller final how l history given sent next r even =
    next (Over ended.WantOfMemory) l history given sent (record { sound = r.sound; ends = r.ends; asked = r.asked; over = r.over }) (even_part l None given sent even)
on id (Beginning bytes) (Reads now) events caller final how l history given sent next r hear =
    reads_on id events caller final how (opened_phase id (whole client_at bytes) now) l history None (whole client_at bytes) now given sent next
    (record { sound = r.sound; ends = r.ends; asked = r.asked; over = r.over }) hear (opened_goes id l (whole client_at bytes) now given sent hear)
on id (Beginning bytes) Wants events caller final how l history given sent next r hear =
    next (Over ended.WantOfMemory) l history given sent (record { sound = r.sound; ends = r.ends; asked = r.asked; over = r.over }) (hear_part l None (whole client_at bytes) given sent hear)
on id (Joining asked) (MakesRequest replied) events caller final how l history given sent next r (frame, now, is, hear) =
    answers_on id events caller final how (join_phase asked replied) l history asked replied (line.Hears (Some frame) now) given sent next r.sound r.ends r.asked r.over
    (λ at replied_so. ap (λ (x : ConnectionLine). x.session) (joins_line at))
    (λ at replied_so.
    subst (λ (x : ConnectionLine). Beside id x given sent (join_phase asked replied)) (sym (joins_line at))
    (subst (λ (q : Reply). Beside id (joined_line at) given sent (join_phase asked q)) (sym replied_so) (beside_given at)))
  where
    joined_line : PlainSession → ConnectionLine
    joined_line at =
        let outcome = answer at asked in
        record { session = outcome.session; cursor = first_cursor (joined_view asked) outcome.reply; over = is_none (first_cursor (joined_view asked) outcome.reply); given = l.given ++ Some frame ∷ []; sent = l.sent ++ answer_frames (join_answer outcome.reply) }

    joins_line : (at : PlainSession) → after_turn id (at_session l at) (line.Hears (Some frame) now) ≡ joined_line at
    joins_line at = hears_is id (at_session l at) None (Some frame) now hear.clear hear.at ∙ ap (λ (q : Result Request Early). hears_first (at_session l at) frame q) is

    beside_given : (at : PlainSession) → Beside id (joined_line at) given sent (join_phase asked (answer at asked).reply)
    beside_given at =
        subst (λ (g : List (Option ClientFrame)). Beside id (joined_line at) g sent (join_phase asked (answer at asked).reply)) (sym hear.given_is)
        (subst (λ (s : List ServerFrame). Beside id (joined_line at) (l.given ++ Some frame ∷ []) s (join_phase asked (answer at asked).reply)) (sym hear.sent_is)
        (greeted_beside id (answer at asked).session (first_cursor (joined_view asked) (answer at asked).reply) (join_answer (answer at asked).reply) (l.given ++ Some frame ∷ []) l.sent))
on id (Joining asked) (Misses why) events caller final how l history given sent next r (frame, now, is, hear) =
    misses_on id why events caller final how (Over (ended_by why)) l history given sent next r.sound r.ends r.asked r.over tt (hear_part l None (Some frame) given sent hear)
on id (Ticking cursor quiets) (MakesAt now replied) events caller final how l history given sent next r even =
    answers_on id events caller final how (Pulling cursor quiets) l history (request.Tick now) replied (line.Others (request.Tick now)) given sent next r.sound r.ends r.asked r.over
    (λ at replied_so. refl) (λ at replied_so. record { at = even.at; clear = even.clear; given_is = even.given_is; sent_is = even.sent_is })
on id (Ticking cursor quiets) (Misses why) events caller final how l history given sent next r even =
    misses_on id why events caller final how (Leaving cursor (ended_by why)) l history given sent next r.sound r.ends r.asked r.over tt (even_part l (Some cursor) given sent even)
on id (Pulling cursor quiets) (MakesRequest replied) events caller final how l history given sent next r even =
    answers_on id events caller final how (pulled_phase cursor quiets replied) l history (request.Pull cursor.after most_pulled) replied line.Pulls given sent next r.sound r.ends r.asked r.over
    (λ at replied_so. ap (λ (x : ConnectionLine). x.session) (pulls_is id (at_session l at) cursor even.clear even.at) ∙ sym (pull_nothing at cursor.after most_pulled))
    (λ at replied_so.
    subst (λ (x : ConnectionLine). Beside id x given sent (pulled_phase cursor quiets replied)) (sym (pulls_is id (at_session l at) cursor even.clear even.at))
    (subst (λ (q : Reply). Beside id (pulled_line at) given sent (pulled_phase cursor quiets q)) (sym replied_so) (beside_pulled at)))
  where
    pulled_line : PlainSession → ConnectionLine
    pulled_line at =
        let batch = (answer at (request.Pull cursor.after most_pulled)).reply in
        record { session = at; cursor = Some (next_cursor cursor batch); over = false; given = l.given; sent = l.sent ++ next_frames cursor batch }

    beside_pulled : (at : PlainSession) → Beside id (pulled_line at) given sent (pulled_phase cursor quiets (answer at (request.Pull cursor.after most_pulled)).reply)
    beside_pulled at =
        let batch = (answer at (request.Pull cursor.after most_pulled)).reply in
        sending_beside id (pulled_line at) given sent (next_frames cursor batch) (Hearing (next_cursor cursor batch) quiets) (Leaving cursor ended.LinkFault) (Leaving cursor ended.WantOfMemory)
        (ap (λ (s : List ServerFrame). s ++ next_frames cursor batch) (sym even.sent_is)) even.given_is (record { at = refl; clear = refl; given_is = even.given_is; sent_is = refl }) tt tt
on id (Pulling cursor quiets) (Misses why) events caller final how l history given sent next r even =
    misses_on id why events caller final how (Leaving cursor (ended_by why)) l history given sent next r.sound r.ends r.asked r.over tt (even_part l (Some cursor) given sent even)
on id (Hearing cursor quiets) (Hears (heard.Frame bytes)) events caller final how l history given sent next r even =
    heard_more id l final given (whole client_at bytes) (frames_of (heard_in events)) (sent ++ (talk_walk id (Taking cursor bytes) events).sent)
    (next (Taking cursor bytes) l history (given ++ whole client_at bytes ∷ []) sent (record { sound = r.sound; ends = r.ends; asked = r.asked; over = r.over }) (to_hear l (Some cursor) (whole client_at bytes) given sent even))
on id (Hearing cursor quiets) (Hears heard.Quiet) events caller final how l history given sent next r even =
    next (hearing_row cursor (quiets + 1)) l history given sent (record { sound = r.sound; ends = r.ends; asked = r.asked; over = r.over }) (hearing_quiet id (quiets + 1 == most_quiets) l cursor given sent (quiets + 1) even)
on id (Hearing cursor quiets) (Hears heard.End) events caller final how l history given sent next r even =
    next (Leaving cursor ended.LinkEnd) l history given sent (record { sound = r.sound; ends = r.ends; asked = r.asked; over = r.over }) (even_part l (Some cursor) given sent even)
on id (Hearing cursor quiets) (Hears heard.Failed) events caller final how l history given sent next r even =
    next (Leaving cursor ended.LinkFault) l history given sent (record { sound = r.sound; ends = r.ends; asked = r.asked; over = r.over }) (even_part l (Some cursor) given sent even)
on id (Hearing cursor quiets) (Hears heard.WantOfMemory) events caller final how l history given sent next r even =
    next (Leaving cursor ended.WantOfMemory) l history given sent (record { sound = r.sound; ends = r.ends; asked = r.asked; over = r.over }) (even_part l (Some cursor) given sent even)
on id (Taking cursor bytes) (Reads now) events caller final how l history given sent next r hear =
    reads_on id events caller final how (read_phase cursor (whole client_at bytes) now) l history (Some cursor) (whole client_at bytes) now given sent next
    (record { sound = r.sound; ends = r.ends; asked = r.asked; over = r.over }) hear (taken_goes id l cursor (whole client_at bytes) now given sent hear)
on id (Taking cursor bytes) Wants events caller final how l history given sent next r hear =
    next (Leaving cursor ended.WantOfMemory) l history given sent (record { sound = r.sound; ends = r.ends; asked = r.asked; over = r.over }) (hear_part l (Some cursor) (whole client_at bytes) given sent hear)
on id (Asking cursor asked) (MakesRequest replied) events caller final how l history given sent next r (frame, now, is, hear) =
    answers_on id events caller final how (reply_phase cursor asked replied) l history asked replied (line.Hears (Some frame) now) given sent next r.sound r.ends r.asked r.over
    (λ at replied_so. ap (λ (x : ConnectionLine). x.session) (asks_line at))
    (λ at replied_so.
    subst (λ (x : ConnectionLine). Beside id x given sent (reply_phase cursor asked replied)) (sym (asks_line at))
    (subst (λ (q : Reply). Beside id (asked_line at) given sent (reply_phase cursor asked q)) (sym replied_so) (beside_asked at)))
  where
    asked_line : PlainSession → ConnectionLine
    asked_line at =
        let outcome = answer at asked in
        record { session = outcome.session; cursor = Some cursor; over = ends_connection outcome.reply; given = l.given ++ Some frame ∷ []; sent = l.sent ++ answer_frames (answer_frame asked outcome.reply) }

    asks_line : (at : PlainSession) → after_turn id (at_session l at) (line.Hears (Some frame) now) ≡ asked_line at
    asks_line at = hears_is id (at_session l at) (Some cursor) (Some frame) now hear.clear hear.at ∙ ap (λ (a : Act). hears_act (at_session l at) cursor (Some frame) a) is

    beside_asked : (at : PlainSession) → Beside id (asked_line at) given sent (reply_phase cursor asked (answer at asked).reply)
    beside_asked at =
        let outcome = answer at asked in
        subst (λ (g : List (Option ClientFrame)). Beside id (asked_line at) g sent (reply_phase cursor asked outcome.reply)) (sym hear.given_is)
        (subst (λ (s : List ServerFrame). Beside id (asked_line at) (l.given ++ Some frame ∷ []) s (reply_phase cursor asked outcome.reply)) (sym hear.sent_is)
        (answered_beside id outcome.session cursor (ends_connection outcome.reply) (end_in outcome.reply) (answer_frames (answer_frame asked outcome.reply)) (l.given ++ Some frame ∷ []) l.sent (stays_open outcome.reply)))
on id (Asking cursor asked) (Misses why) events caller final how l history given sent next r (frame, now, is, hear) =
    misses_on id why events caller final how (Leaving cursor (ended_by why)) l history given sent next r.sound r.ends r.asked r.over tt (hear_part l (Some cursor) (Some frame) given sent hear)
on id (Sending frame frames behind fails wants) Sends events caller final how l history given sent next r (is, same, beside, failing, wanting) =
    sent_more id l final (given ++ frames_of (heard_in events)) sent frame (talk_walk id (sending_phase frames behind fails wants) events).sent
    (next (sending_phase frames behind fails wants) l history given (sent ++ frame ∷ []) (record { sound = r.sound; ends = r.ends; asked = r.asked; over = r.over })
    (sending_beside id l given (sent ++ frame ∷ []) frames behind fails wants (is ∙ sym (append_assoc sent (frame ∷ []) frames)) same beside failing wanting))
on id (Sending frame frames behind fails wants) Loses events caller final how l history given sent next r (is, same, beside, failing, wanting) =
    sent_more id l final (given ++ frames_of (heard_in events)) sent frame (talk_walk id fails events).sent
    (next fails l history given (sent ++ frame ∷ []) (record { sound = r.sound; ends = r.ends; asked = r.asked; over = r.over })
    (part_beside id l given (sent ++ frame ∷ []) fails failing
    (record { unheard = []; given_is = same ∙ sym (append-nil l.given); unsent = frames; sent_is = is ∙ sym (append_assoc sent (frame ∷ []) frames) })))
on id (Sending frame frames behind fails wants) FailsToSend events caller final how l history given sent next r (is, same, beside, failing, wanting) =
    next fails l history given sent (record { sound = r.sound; ends = r.ends; asked = r.asked; over = r.over })
    (part_beside id l given sent fails failing (record { unheard = []; given_is = same ∙ sym (append-nil l.given); unsent = frame ∷ frames; sent_is = is }))
on id (Sending frame frames behind fails wants) Wants events caller final how l history given sent next r (is, same, beside, failing, wanting) =
    next wants l history given sent (record { sound = r.sound; ends = r.ends; asked = r.asked; over = r.over })
    (part_beside id l given sent wants wanting (record { unheard = []; given_is = same ∙ sym (append-nil l.given); unsent = frame ∷ frames; sent_is = is }))
on id (Leaving cursor ending) (MakesAt now replied) events caller final how l history given sent next r part =
    answers_on id events caller final how (Over ending) l history (request.Leave cursor.view cursor.joined now) replied (line.Others (request.Leave cursor.view cursor.joined now)) given sent next r.sound r.ends r.asked r.over
    (λ at replied_so. refl) (λ at replied_so. record { unheard = part.unheard; given_is = part.given_is; unsent = part.unsent; sent_is = part.sent_is })
on id (Leaving cursor ending) (Misses why) events caller final how l history given sent next r part =
    misses_on id why events caller final how (Over ending) l history given sent next r.sound r.ends r.asked r.over tt part
on id p event events caller final how l history given sent next r beside = absurd (never_over id events how r.over)

-- ---- all events

over_part : (id : SessionId) (l : ConnectionLine) (given : List (Option ClientFrame)) (sent : List ServerFrame) (p : TalkPhase) (how : Ended) → p ≡ Over how → Beside id l given sent p → IsPart l given sent
over_part id l given sent p how is beside = subst (Beside id l given sent) is beside

serves : (id : SessionId) (events : List TalkEvent) (caller : ℕ) (final : PlainSession) (how : Ended) → Onwards id events caller final how
serves id [] caller final how p l history given sent r beside =
    let part = over_part id l given sent p how r.over beside in
    others_end id history l final (given ++ []) part.unheard (sent ++ []) part.unsent r.sound r.ends (append-nil given ∙ part.given_is)
    (part.sent_is ∙ ap (λ (s : List ServerFrame). s ++ part.unsent) (sym (append-nil sent)))
serves id (event ∷ events) caller final how p l history given sent r beside = on id p event events caller final how l history given sent (serves id events caller final how) r beside

-- the line of a whole talk
talk_line : (gives : ℕ → Type 0) (id : SessionId) (opening : PlainSession) (history : List Item) (caller : ℕ) (heard : List Heard) (sent : List (List ℕ)) (how : Ended) → IsSoundThrough opening history
    → (talk : Talk gives id opening history caller heard sent how) → IsLine id (first_line opening) (play_from opening history) (frames_of (heard_in talk.events)) (talk_walk id (Opening 0) talk.events).sent
talk_line gives id opening history caller heard sent how sound talk =
    serves id talk.events caller (play_from opening history) how (Opening 0) (first_line opening) history [] []
    (record { sound = sound; ends = refl; asked = talk.asked; over = talk.ends }) (record { at = refl; clear = refl; given_is = refl; sent_is = refl })

pub talk_served : (gives : ℕ → Type 0) (id : SessionId) (opening : PlainSession) (history : List Item) (caller : ℕ) (heard : List Heard) (sent : List (List ℕ)) (how : Ended) → IsSoundThrough opening history
    → Talk gives id opening history caller heard sent how → IsTalkServed (play_from opening history).log heard sent
talk_served gives id opening history caller heard sent how sound talk =
    let frames = (talk_walk id (Opening 0) talk.events).sent in
    let h = talk_line gives id opening history caller heard sent how sound talk in
    let last = after_turns id (first_line opening) h.turns in
    let all : Served (play_from opening history).log last.given last.sent = subst (λ (s : PlainSession). Served s.log last.given last.sent) h.ends (served_by id opening h.turns h.sound) in
    let front = served_front (play_from opening history).log last.given h.unheard frames h.unsent (subst (λ (s : List ServerFrame). Served (play_from opening history).log last.given s) h.sent_is all) in
    record {
      frames = frames;
      spelling = talk.told;
      spelled = talk.spelled;
      served =
          subst (λ (x : List Heard). Served (play_from opening history).log (frames_of x) frames) (sym talk.said)
          (subst (λ (g : List (Option ClientFrame)). Served (play_from opening history).log g frames) (sym h.given_is) front);
    }

-- and what it tells of time is within its session's horizon
pub talk_told : (gives : ℕ → Type 0) (id : SessionId) (opening : PlainSession) (history : List Item) (caller : ℕ) (heard : List Heard) (sent : List (List ℕ)) (how : Ended) → IsSoundThrough opening history
    → Talk gives id opening history caller heard sent how → IsToldWithin (play_from opening history).horizon sent
talk_told gives id opening history caller heard sent how sound talk = record {
  frames = (talk_walk id (Opening 0) talk.events).sent;
  spelling = talk.told;
  spelled = talk.spelled;
  ticks =
      line_ticks id opening (play_from opening history) (frames_of (heard_in talk.events)) (talk_walk id (Opening 0) talk.events).sent (sound_start opening history sound)
      (talk_line gives id opening history caller heard sent how sound talk);
}
