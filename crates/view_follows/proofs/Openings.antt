-- What the first frame of a talk tells of the session at its first call.
use Rattle.std.proofs.Common.{◌≡◌, ◌⊎◌, inl, inr, ℕ, ◌+◌, ◌==◌, Bool, true, false, cond, eqb, not, ◌&&◌, ◌||◌, nat_le, List, [], ◌∷◌, ◌++◌, Option, Some, None, Result, Ok, Err, if◌then◌else◌, refl, sym, ap, subst, ◌∙◌}
use Rattle.byte_fields.specs.Fields.{whole}
use Rattle.tea_base.specs.declared.entry.Entry.{Entry}
use Rattle.tea_base.specs.declared.entry.SessionId.{SessionId}
use Rattle.tea_base.specs.Limits.{end_of_time, most_here}
use Rattle.tea_base.specs.Readings.{here_count, is_here}
use Rattle.tea_io.specs.declared.link.Heard.TheVariants as said
use Rattle.tea_io.specs.Links.{most_quiets}
use Rattle.wire_frames.specs.Reading.{client_at}
use Rattle.wire_frames.specs.Spelling.{client_tag}
use Rattle.wire_frames.specs.declared.start.Base.{Base}
use Rattle.wire_frames.specs.declared.start.Want.{Want}
use Rattle.wire_frames.specs.declared.start.Want.TheVariants as want
use Rattle.wire_frames.specs.declared.frame.ClientFrame.{ClientFrame}
use Rattle.wire_frames.specs.declared.frame.ServerFrame.{ServerFrame}
use Rattle.wire_frames.specs.declared.frame.ServerFrame.TheVariants as server
use Rattle.wire_frames.specs.declared.tags.TheConstants.{JOIN_TAG}
use Rattle.wire_frames.specs.Codes.{code_number}
use Rattle.reflector_core.specs.PlainSession.{PlainSession}
use Rattle.reflector_core.specs.Answer.{SessionOutcome, answer, base_for, is_ahead, is_closed, join}
use Rattle.reflector_core.specs.declared.request.Request.{Request}
use Rattle.reflector_core.specs.declared.request.Request.TheVariants as request
use Rattle.reflector_core.specs.declared.request.Reply.{Reply}
use Rattle.reflector_core.specs.declared.request.Reply.TheVariants as reply
use Rattle.join_sync.specs.declared.cursor.Cursor.{Cursor}
use Rattle.join_sync.specs.declared.early.Early.{Early}
use Rattle.join_sync.specs.Answers.{first_cursor, join_answer}
use Rattle.join_sync.specs.Refusals.{early_code, refused_frame}
use Rattle.join_sync.specs.Requests.{IsJoin, first_request}
use Rattle.session_lock.specs.declared.knowledge.Item.{Item}
use Rattle.reflector_core.specs.declared.keeper.CallFault.TheVariants as fault
use Rattle.session_lock.specs.declared.knowledge.Item.TheVariants.{Did, Void, Unkept}
use Rattle.session_lock.specs.History.{after_item, calls_of, play_from}
use Rattle.system_plain.specs.Turn.{joined_view, open_act}
use Rattle.system_plain.proofs.AnswerFrames.{refused_form}
use Rattle.replica_plain.specs.Following.{IsHonestBase}
use Rattle.connection.specs.declared.ending.Ended.TheVariants as ended
use Rattle.connection.specs.Exchanges.{Exchange, Answered, Unanswered, exchanges_from}
use Rattle.connection.specs.Phases.{TalkPhase, Opening, Beginning, Joining, Ticking, Sending, Leaving, Over, Wrong, TalkEvent, Hears, Reads, MakesRequest, MakesAt, Misses, Sends, Loses, FailsToSend, Wants, code_in, ended_by, entered_phase, greeted_phase, join_phase, opened_phase, refused_phase, talk_walk}
use Rattle.connection.proofs.Callers.{first_is_join}
use Rattle.view_follows.specs.Links.{BeginsHonestly}
use Rattle.view_follows.proofs.Stands.{RealWorlds}

-- ---- what is sent first

-- the frames do not begin with a Sync
abbrev pub IsNoSync : List ServerFrame → Type 0
IsNoSync (server.Sync joined last from base ∷ rest) = ⊥
IsNoSync frames = Unit {0}

-- they begin with the answer to a Join, which is asked first
pub record Greets (asked : List Exchange) (sent : List ServerFrame) : Type 0 where
  pub request : Request
  pub given : Reply
  pub more : List Exchange
  pub frame : ServerFrame
  pub rest : List ServerFrame
  pub join : IsJoin request
  pub asked_is : asked ≡ Answered request given ∷ more
  pub answers : join_answer given ≡ Some frame
  pub sent_is : sent ≡ frame ∷ rest

abbrev pub Opens : List Exchange → List ServerFrame → Type 0
Opens asked sent = IsNoSync sent ⊎ Greets asked sent

no_sync : (sent : List ServerFrame) → sent ≡ [] → IsNoSync sent
no_sync sent none = subst IsNoSync (sym none) tt

-- a talk that only leaves sends nothing more
abbrev SaysNothing : TalkPhase → Type 0
SaysNothing (Leaving cursor how) = Unit {0}
SaysNothing (Over how) = Unit {0}
SaysNothing Wrong = Unit {0}
SaysNothing other = ⊥

silent : (id : SessionId) (p : TalkPhase) (events : List TalkEvent) → SaysNothing p → (talk_walk id p events).sent ≡ []
silent id p [] says = refl
silent id (Leaving cursor how) (MakesAt now given ∷ events) says = silent id (Over how) events tt
silent id (Leaving cursor how) (Misses why ∷ events) says = silent id (Over how) events tt
silent id (Leaving cursor how) (event ∷ events) says = silent id Wrong events tt
silent id (Over how) (event ∷ events) says = silent id Wrong events tt
silent id Wrong (event ∷ events) says = silent id Wrong events tt
silent id p (event ∷ events) says = absurd says

-- one frame is sent, or none, before others
abbrev SendsFirst : ServerFrame → List ServerFrame → Type 0
SendsFirst frame sent = (sent ≡ []) ⊎ ((rest : List ServerFrame) × (sent ≡ frame ∷ rest))

sends_first : (id : SessionId) (frame : ServerFrame) (frames : List ServerFrame) (next fails wants : TalkPhase) (events : List TalkEvent) → SaysNothing fails → SaysNothing wants → SendsFirst frame (talk_walk id (Sending frame frames next fails wants) events).sent
sends_first id frame frames next fails wants [] failing wanting = inl refl
sends_first id frame frames next fails wants (Sends ∷ events) failing wanting = inr (_, refl)
sends_first id frame frames next fails wants (Loses ∷ events) failing wanting = inr (_, refl)
sends_first id frame frames next fails wants (FailsToSend ∷ events) failing wanting = inl (silent id fails events failing)
sends_first id frame frames next fails wants (Wants ∷ events) failing wanting = inl (silent id wants events wanting)
sends_first id frame frames next fails wants (event ∷ events) failing wanting = inl (silent id Wrong events tt)

-- a refusal is no Sync
refused_opens : (id : SessionId) (about code kept more : ℕ) (events : List TalkEvent) → IsNoSync (talk_walk id (refused_phase (server.Refused about code kept more)) events).sent
refused_opens id about code kept more events =
    elim (sends_first id (server.Refused about code kept more) [] (Over (ended.Refused code)) (Over (ended.Refused code)) (Over ended.WantOfMemory) events tt tt) [
      | inl none ↦ no_sync _ none
      | inr one ↦ subst IsNoSync (sym one.1) tt
    ]

-- the answer to a Join
greets : (id : SessionId) (asked : Request) (given : Reply) (more : List Exchange) (cursor : Option Cursor) (told : Option ServerFrame) (events : List TalkEvent) → IsJoin asked → join_answer given ≡ told
    → Opens (Answered asked given ∷ more) (talk_walk id (greeted_phase cursor told) events).sent
greets id asked given more (Some cursor) (Some frame) events join is = elim (sends_first id frame [] (Ticking cursor 0) (Leaving cursor ended.LinkFault) (Leaving cursor ended.WantOfMemory) events tt tt) [
  | inl none ↦ inl (no_sync _ none)
  | inr one ↦ inr (record { request = asked; given = given; more = more; frame = frame; rest = one.0; join = join; asked_is = refl; answers = is; sent_is = one.1 })
]
greets id asked given more None (Some frame) events join is = elim (sends_first id frame [] (Over (ended.Refused (code_in frame))) (Over (ended.Refused (code_in frame))) (Over ended.WantOfMemory) events tt tt) [
  | inl none ↦ inl (no_sync _ none)
  | inr one ↦ inr (record { request = asked; given = given; more = more; frame = frame; rest = one.0; join = join; asked_is = refl; answers = is; sent_is = one.1 })
]
greets id asked given more (Some cursor) None events join is = inl (no_sync _ (silent id Wrong events tt))
greets id asked given more None None events join is = inl (no_sync _ (silent id Wrong events tt))

joining_opens : (id : SessionId) (asked : Request) (events : List TalkEvent) → IsJoin asked → let walked = talk_walk id (Joining asked) events in Opens walked.asked walked.sent
joining_opens id asked [] join = inl tt
joining_opens id asked (MakesRequest given ∷ events) join = greets id asked given (talk_walk id (join_phase asked given) events).asked (first_cursor (joined_view asked) given) (join_answer given) events join refl
joining_opens id asked (Misses why ∷ events) join = inl (no_sync _ (silent id (Over (ended_by why)) events tt))
joining_opens id asked (event ∷ events) join = inl (no_sync _ (silent id Wrong events tt))

entered_opens : (id : SessionId) (frame : ClientFrame) (now : ℕ) (r : Result Request Early) (events : List TalkEvent) → first_request frame id now ≡ r → let walked = talk_walk id (entered_phase (open_act frame r)) events in Opens walked.asked walked.sent
entered_opens id frame now (Ok asked) events is = joining_opens id asked events (first_is_join frame id now asked is)
entered_opens id frame now (Err early) events is = inl (refused_opens id (client_tag frame) (code_number (early_code early)) 0 0 events)

opened_opens : (id : SessionId) (frame : Option ClientFrame) (now : ℕ) (events : List TalkEvent) → let walked = talk_walk id (opened_phase id frame now) events in Opens walked.asked walked.sent
opened_opens id None now events = inl (refused_opens id 0 13 0 0 events)
opened_opens id (Some frame) now events = entered_opens id frame now (first_request frame id now) events refl

beginning_opens : (id : SessionId) (bytes : List ℕ) (events : List TalkEvent) → let walked = talk_walk id (Beginning bytes) events in Opens walked.asked walked.sent
beginning_opens id bytes [] = inl tt
beginning_opens id bytes (Reads now ∷ events) = opened_opens id (whole client_at bytes) now events
beginning_opens id bytes (Wants ∷ events) = inl (no_sync _ (silent id (Over ended.WantOfMemory) events tt))
beginning_opens id bytes (event ∷ events) = inl (no_sync _ (silent id Wrong events tt))

-- a row of Quiets goes on, or ends the talk
quiet_opens : (id : SessionId) (last : Bool) (quiets : ℕ) (events : List TalkEvent) → (let going = talk_walk id (Opening quiets) events in Opens going.asked going.sent)
    → let walked = talk_walk id (if last then Over (ended.Idle most_quiets) else Opening quiets) events in Opens walked.asked walked.sent
quiet_opens id true quiets events goes = inl (no_sync _ (silent id (Over (ended.Idle most_quiets)) events tt))
quiet_opens id false quiets events goes = goes

pub talk_opens : (id : SessionId) (quiets : ℕ) (events : List TalkEvent) → let walked = talk_walk id (Opening quiets) events in Opens walked.asked walked.sent
talk_opens id quiets [] = inl tt
talk_opens id quiets (Hears (said.Frame bytes) ∷ events) = beginning_opens id bytes events
talk_opens id quiets (Hears said.Quiet ∷ events) = quiet_opens id (quiets + 1 == most_quiets) (quiets + 1) events (talk_opens id (quiets + 1) events)
talk_opens id quiets (Hears said.End ∷ events) = inl (no_sync _ (silent id (Over ended.LinkEnd) events tt))
talk_opens id quiets (Hears said.Failed ∷ events) = inl (no_sync _ (silent id (Over ended.LinkFault) events tt))
talk_opens id quiets (Hears said.WantOfMemory ∷ events) = inl (no_sync _ (silent id (Over ended.WantOfMemory) events tt))
talk_opens id quiets (event ∷ events) = inl (no_sync _ (silent id Wrong events tt))

-- ---- the first call in a history

-- the first call of a caller, and the reply at its place
pub record FirstCall (s : PlainSession) (history : List Item) (caller : ℕ) (asked : Request) (given : Reply) : Type 0 where
  pub front : List Item
  pub back : List Item
  pub is : front ++ back ≡ history
  pub none : calls_of (caller ∷ []) front ≡ []
  pub replied : given ≡ (answer (play_from s front) asked).reply

same_request : (a b : Request) (r q : Reply) (xs ys : List Exchange) → Answered a r ∷ xs ≡ Answered b q ∷ ys → (a ≡ b) × (r ≡ q)
same_request a b r q xs ys is = (cc (is), cc (is))

-- another caller's item stands before it
one_more : (s : PlainSession) (item : Item) (history : List Item) (caller : ℕ) (asked : Request) (given : Reply) (own : Bool) → own ≡ false
    → ((front : List Item) → calls_of (caller ∷ []) (item ∷ front) ≡ (if own || false then item ∷ calls_of (caller ∷ []) front else calls_of (caller ∷ []) front))
    → FirstCall (after_item s item) history caller asked given → FirstCall s (item ∷ history) caller asked given
one_more s item history caller asked given true is both first = absurd (cc (is))
one_more s item history caller asked given false is both first = record {
  front = item ∷ first.front;
  back = first.back;
  is = ap (λ (l : List Item). item ∷ l) first.is;
  none = both first.front ∙ first.none;
  replied = first.replied;
}

did_calls : (own : Bool) (s : PlainSession) (who : ℕ) (made : Request) (items : List Item) (caller : ℕ) (asked : Request) (given : Reply) (more : List Exchange) → eqb who caller ≡ own
    → (if own then Answered made (answer s made).reply ∷ [] else []) ++ exchanges_from (answer s made).session caller items ≡ Answered asked given ∷ more
    → (exchanges_from (answer s made).session caller items ≡ Answered asked given ∷ more → FirstCall (answer s made).session items caller asked given) → FirstCall s (Did who made ∷ items) caller asked given
did_calls true s who made items caller asked given more own is later =
    let same = same_request made asked (answer s made).reply given _ more is in
    record { front = []; back = Did who made ∷ items; is = refl; none = refl; replied = sym same.1 ∙ ap (λ (q : Request). (answer s q).reply) same.0 }
did_calls false s who made items caller asked given more own is later =
    one_more s (Did who made) items caller asked given (eqb who caller) own (λ front. refl) (later is)

void_calls : (own : Bool) (s : PlainSession) (who : ℕ) (items : List Item) (caller : ℕ) (asked : Request) (given : Reply) (more : List Exchange) → eqb who caller ≡ own
    → (if own then Unanswered fault.WantOfMemory ∷ [] else []) ++ exchanges_from s caller items ≡ Answered asked given ∷ more
    → (exchanges_from s caller items ≡ Answered asked given ∷ more → FirstCall s items caller asked given) → FirstCall s (Void who ∷ items) caller asked given
void_calls true s who items caller asked given more own is later = absurd (cc (is))
void_calls false s who items caller asked given more own is later =
    one_more s (Void who) items caller asked given (eqb who caller) own (λ front. refl) (later is)

unkept_calls : (own : Bool) (s : PlainSession) (who : ℕ) (items : List Item) (caller : ℕ) (asked : Request) (given : Reply) (more : List Exchange) → eqb who caller ≡ own
    → (if own then Unanswered fault.Unkept ∷ [] else []) ++ exchanges_from s caller items ≡ Answered asked given ∷ more
    → (exchanges_from s caller items ≡ Answered asked given ∷ more → FirstCall s items caller asked given) → FirstCall s (Unkept who ∷ items) caller asked given
unkept_calls true s who items caller asked given more own is later = absurd (cc (is))
unkept_calls false s who items caller asked given more own is later =
    one_more s (Unkept who) items caller asked given (eqb who caller) own (λ front. refl) (later is)

pub first_call : (s : PlainSession) (history : List Item) (caller : ℕ) (asked : Request) (given : Reply) (more : List Exchange) → exchanges_from s caller history ≡ Answered asked given ∷ more → FirstCall s history caller asked given
first_call s [] caller asked given more is = absurd (cc (is))
first_call s (Did who made ∷ items) caller asked given more is =
    did_calls (eqb who caller) s who made items caller asked given more refl is (λ later. first_call (answer s made).session items caller asked given more later)
first_call s (Void who ∷ items) caller asked given more is = void_calls (eqb who caller) s who items caller asked given more refl is (λ later. first_call s items caller asked given more later)
first_call s (Unkept who ∷ items) caller asked given more is = unkept_calls (eqb who caller) s who items caller asked given more refl is (λ later. first_call s items caller asked given more later)

-- ---- the base that a Join is answered with

-- it is the kept snapshot, or none
abbrev TellsBase : Option Base → Reply → Type 0
TellsBase kept (reply.Joined seq time last from base) = (base ≡ kept) ⊎ (base ≡ None)
TellsBase kept other = Unit {0}

base_if : (kept : Option Base) (test : Bool) (a b : SessionOutcome) → TellsBase kept a.reply → TellsBase kept b.reply → TellsBase kept (cond test a b).reply
base_if kept true a b one other = one
base_if kept false a b one other = other

based_on : (wanted : Want) (kept : Option Base) → (base_for wanted kept ≡ kept) ⊎ (base_for wanted kept ≡ None)
based_on want.Fresh kept = inl refl
based_on want.Whole kept = inr refl
based_on (want.After time) kept = inr refl

join_tells : (s : PlainSession) (view now : ℕ) (wanted : Want) → TellsBase s.kept (join s view now wanted).reply
join_tells s view now wanted =
    base_if s.kept (eqb view 0) _ _ tt
    (base_if s.kept (is_ahead s.horizon wanted) _ _ tt
    (base_if s.kept (not (is_here s.log view) && nat_le most_here (here_count s.log)) _ _ tt
    (base_if s.kept (is_closed s.log) _ _ tt
    (base_if s.kept (nat_le end_of_time s.horizon) _ _ tt (based_on wanted s.kept)))))

answer_tells : (s : PlainSession) (asked : Request) → IsJoin asked → TellsBase s.kept (answer s asked).reply
answer_tells s (request.Join view now wanted) join = join_tells s view now wanted
answer_tells s (request.Send view joined number payload now) join = absurd join
answer_tells s (request.Tick now) join = absurd join
answer_tells s (request.Leave view joined now) join = absurd join
answer_tells s (request.Offer view joined time bytes) join = absurd join
answer_tells s (request.Pull after limit) join = absurd join

honest_or_none : (m : RealWorlds) (log : List Entry) (base kept : Option Base) → (base ≡ kept) ⊎ (base ≡ None) → IsHonestBase m log kept → IsHonestBase m log base
honest_or_none m log base kept (inl same) honest = subst (IsHonestBase m log) (sym same) honest
honest_or_none m log base kept (inr none) honest = subst (IsHonestBase m log) (sym none) tt

some_frame : (frame other : ServerFrame) → Some frame ≡ Some other → frame ≡ other
some_frame frame other is = cc

greeting_is_honest : (m : RealWorlds) (log : List Entry) (kept : Option Base) (given : Reply) (frame : ServerFrame) (rest : List ServerFrame) → TellsBase kept given → join_answer given ≡ Some frame → IsHonestBase m log kept → BeginsHonestly m log (frame ∷ rest)
greeting_is_honest m log kept (reply.Joined seq time last from base) frame rest tells is honest =
    subst (λ (f : ServerFrame). BeginsHonestly m log (f ∷ rest)) (some_frame (server.Sync seq last from base) frame is) (honest_or_none m log base kept tells honest)
greeting_is_honest m log kept (reply.Refused refusal) frame rest tells is honest =
    let form = refused_form 1 refusal in
    subst (λ (f : ServerFrame). BeginsHonestly m log (f ∷ rest)) (sym form.3 ∙ some_frame (refused_frame JOIN_TAG refusal) frame is) tt
greeting_is_honest m log kept (reply.Stamped seq time) frame rest tells is honest = absurd (cc (is))
greeting_is_honest m log kept (reply.Again seq time) frame rest tells is honest = absurd (cc (is))
greeting_is_honest m log kept (reply.Ticked time) frame rest tells is honest = absurd (cc (is))
greeting_is_honest m log kept (reply.Left seq time) frame rest tells is honest = absurd (cc (is))
greeting_is_honest m log kept reply.Kept frame rest tells is honest = absurd (cc (is))
greeting_is_honest m log kept (reply.Batch entries tick) frame rest tells is honest = absurd (cc (is))

no_sync_is_honest : (m : RealWorlds) (log : List Entry) (frames : List ServerFrame) → IsNoSync frames → BeginsHonestly m log frames
no_sync_is_honest m log [] none = tt
no_sync_is_honest m log (server.Sync joined last from base ∷ rest) none = absurd none
no_sync_is_honest m log (frame ∷ rest) none = tt

-- what is sent begins with an honest base, if the snapshot is honest that is kept at the caller's first call
pub opens_honestly : (m : RealWorlds) (log : List Entry) (s : PlainSession) (history : List Item) (caller : ℕ) (asked : List Exchange) (sent : List ServerFrame) → exchanges_from s caller history ≡ asked → Opens asked sent
    → ((front back : List Item) → front ++ back ≡ history → calls_of (caller ∷ []) front ≡ [] → IsHonestBase m log (play_from s front).kept) → BeginsHonestly m log sent
opens_honestly m log s history caller asked sent is (inl none) honest = no_sync_is_honest m log sent none
opens_honestly m log s history caller asked sent is (inr g) honest =
    let first = first_call s history caller g.request g.given g.more (is ∙ g.asked_is) in
    let at = play_from s first.front in
    subst (λ (frames : List ServerFrame). BeginsHonestly m log frames) (sym g.sent_is)
    (greeting_is_honest m log at.kept g.given g.frame g.rest (subst (TellsBase at.kept) (sym first.replied) (answer_tells at g.request g.join)) g.answers (honest first.front first.back first.is first.none))
