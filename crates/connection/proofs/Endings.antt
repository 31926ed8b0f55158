-- What was asked tells how a connection ends.
use Rattle.std.proofs.Common.{◌≡◌, inl, inr, ℕ, ◌+◌, ◌==◌, Bool, true, false, if◌then◌else◌, List, [], ◌∷◌, ◌++◌, Option, Some, None, Result, Ok, Err, refl, sym, ◌∙◌, subst, append_assoc}
use Rattle.std.specs.List.{AllByRecursion}
use Rattle.std.proofs.lemmas.List.{append-nil}
use Rattle.byte_fields.specs.Fields.{whole}
use Rattle.tea_base.specs.declared.entry.SessionId.{SessionId}
use Rattle.tea_io.specs.declared.link.Heard.TheVariants as heard
use Rattle.wire_frames.specs.Reading.{client_at}
use Rattle.wire_frames.specs.declared.frame.ClientFrame.{ClientFrame}
use Rattle.wire_frames.specs.declared.frame.ServerFrame.{ServerFrame}
use Rattle.wire_frames.specs.declared.frame.ServerFrame.TheVariants.{Sync}
use Rattle.wire_frames.specs.declared.tags.TheConstants.{JOIN_TAG}
use Rattle.reflector_core.specs.declared.keeper.CallFault.{CallFault}
use Rattle.reflector_core.specs.declared.keeper.CallFault.TheVariants as fault
use Rattle.reflector_core.specs.declared.request.Reply.{Reply}
use Rattle.reflector_core.specs.declared.request.Reply.TheVariants as reply
use Rattle.reflector_core.specs.declared.request.Refusal.{Refusal}
use Rattle.reflector_core.specs.declared.request.Refusal.TheVariants as refusal
use Rattle.reflector_core.specs.declared.request.Request.{Request}
use Rattle.reflector_core.specs.declared.request.Request.TheVariants.{Join, Send, Tick, Leave, Offer, Pull}
use Rattle.join_sync.specs.declared.act.Act.{Act}
use Rattle.join_sync.specs.declared.act.Act.TheVariants.{Call, Answer}
use Rattle.join_sync.specs.declared.cursor.Cursor.{Cursor}
use Rattle.join_sync.specs.declared.early.Early.{Early}
use Rattle.join_sync.specs.declared.early.Early.TheVariants.{OtherSession, NotJoined}
use Rattle.join_sync.specs.Answers.{answer_frame}
use Rattle.join_sync.specs.Batches.{most_pulled, next_cursor, next_frames}
use Rattle.join_sync.specs.Refusals.{early_frame, refused_frame}
use Rattle.join_sync.specs.Requests.{IsJoin, IsOfFrame, act_on, first_request}
use Rattle.join_sync.proofs.Replies.{request_fits}
use Rattle.system_plain.specs.Turn.{answer_frames, open_act, unread_frame}
use Rattle.reflector_core.specs.PlainSession.{PlainSession}
use Rattle.session_lock.specs.declared.knowledge.Item.{Item}
use Rattle.tea_io.specs.declared.link.Heard.{Heard}
use Rattle.tea_io.specs.Links.{most_quiets}
use Rattle.connection.specs.declared.ending.Ended.{Ended}
use Rattle.connection.specs.declared.ending.Ended.TheVariants as ended
use Rattle.connection.specs.Causes.{EndNothing, EndsElse, EndsExactly, EndsByReply, EndsUnkept, IsLastLeave, IsTurnedDown, LeavesStale, end_of}
use Rattle.connection.specs.Exchanges.{Exchange, Answered, Unanswered, IsUnkeptBy, exchanges_in}
use Rattle.connection.specs.Phases.{TalkPhase, Opening, Beginning, Joining, Ticking, Pulling, Hearing, Taking, Asking, Sending, Leaving, Over, Wrong, TalkEvent, Hears, Reads, MakesRequest, MakesAt, Misses, Sends, Loses, FailsToSend, Wants, acted_phase, code_in, end_in, ended_by, ending_phase, entered_phase, join_phase, opened_phase, read_phase, refused_phase, reply_phase, sending_phase, talk_step, talk_walk, telling_phase}
use Rattle.connection.specs.Talk.{Talk}
use Rattle.connection.proofs.Callers.{first_is_join}

all_both : (xs ys : List Exchange) → EndNothing xs → EndNothing ys → EndNothing (xs ++ ys)
all_both [] ys all more = more
all_both (x ∷ xs) ys all more = (all.0, all_both xs ys all.1 more)

-- no reply brings this end
abbrev ComesElse : Ended → Type 0
ComesElse ended.Left = ⊥
ComesElse (ended.Stale current) = ⊥
ComesElse (ended.Refused code) = ⊥
ComesElse ended.Unkept = ⊥
ComesElse other = Unit {0}

-- what was asked where a connection stands in a phase
abbrev AskedTo : List Exchange → TalkPhase → Type 0
AskedTo asked (Opening quiets) = asked ≡ []
AskedTo asked (Beginning bytes) = asked ≡ []
AskedTo asked (Joining request) = (asked ≡ []) × IsJoin request
AskedTo asked (Ticking cursor quiets) = EndNothing asked
AskedTo asked (Pulling cursor quiets) = EndNothing asked
AskedTo asked (Hearing cursor quiets) = EndNothing asked
AskedTo asked (Taking cursor bytes) = EndNothing asked
AskedTo asked (Asking cursor request) = EndNothing asked × IsOfFrame request
AskedTo asked (Sending frame frames next fails wants) = AskedTo asked next × AskedTo asked fails × AskedTo asked wants
AskedTo asked (Leaving cursor how) = (last : Exchange) → IsLastLeave (last ∷ []) → EndsExactly how (asked ++ last ∷ [])
AskedTo asked (Over how) = EndsExactly how asked
AskedTo asked Wrong = Unit {0}

-- an end that no reply brings
else_ends : (asked : List Exchange) (how : Ended) → ComesElse how → EndsElse asked → EndsExactly how asked
else_ends asked ended.Left comes h = absurd comes
else_ends asked (ended.Stale current) comes h = absurd comes
else_ends asked (ended.Refused code) comes h = absurd comes
else_ends asked ended.Unkept comes h = absurd comes
else_ends asked ended.LinkEnd comes h = h
else_ends asked ended.LinkFault comes h = h
else_ends asked (ended.Idle quiets) comes h = h
else_ends asked ended.WantOfMemory comes h = inl h

-- no reply has ended it, and it leaves
left_ends : (asked : List Exchange) (how : Ended) → EndNothing asked → ComesElse how → (last : Exchange) → IsLastLeave (last ∷ []) → EndsExactly how (asked ++ last ∷ [])
left_ends asked how none comes last leaves = else_ends (asked ++ last ∷ []) how comes (record { front = asked; rest = last ∷ []; asked_is = refl; before = none; leaves = leaves })

sending_asked : (asked : List Exchange) (frames : List ServerFrame) (next fails wants : TalkPhase) → AskedTo asked next → AskedTo asked fails → AskedTo asked wants → AskedTo asked (sending_phase frames next fails wants)
sending_asked asked [] next fails wants h failing wanting = h
sending_asked asked (frame ∷ frames) next fails wants h failing wanting = (h, failing, wanting)

telling_asked : (asked : List Exchange) (cursor : Cursor) (frames : List ServerFrame) (next : TalkPhase) → EndNothing asked → AskedTo asked next → AskedTo asked (telling_phase cursor frames next)
telling_asked asked cursor frames next none h = sending_asked asked frames next (Leaving cursor ended.LinkFault) (Leaving cursor ended.WantOfMemory) h (left_ends asked ended.LinkFault none tt) (left_ends asked ended.WantOfMemory none tt)

none_ends : (asked : List Exchange) → EndNothing asked → EndsElse asked
none_ends asked none = record { front = asked; rest = []; asked_is = sym (append-nil asked); before = none; leaves = tt }

refused_asked : (asked : List Exchange) (frame : ServerFrame) → EndNothing asked → IsTurnedDown (code_in frame) asked → AskedTo asked (refused_phase frame)
refused_asked asked frame none turned = (turned, turned, inl (none_ends asked none))

early_asked : (early : Early) (frame : ClientFrame) → IsTurnedDown (code_in (early_frame early frame)) []
early_asked OtherSession frame = inr (inr refl)
early_asked NotJoined frame = inr (inl refl)

opened_asked : (id : SessionId) (frame : ClientFrame) (now : ℕ) (r : Result Request Early) → first_request frame id now ≡ r → AskedTo [] (entered_phase (open_act frame r))
opened_asked id frame now (Ok request) is = (refl, first_is_join frame id now request is)
opened_asked id frame now (Err early) is = refused_asked [] (early_frame early frame) tt (early_asked early frame)

read_first : (id : SessionId) (frame : Option ClientFrame) (now : ℕ) → AskedTo [] (opened_phase id frame now)
read_first id None now = refused_asked [] unread_frame tt (inl refl)
read_first id (Some frame) now = opened_asked id frame now (first_request frame id now) refl

joined_asked : (request : Request) (given : Reply) → IsJoin request → AskedTo (Answered request given ∷ []) (join_phase request given)
joined_asked (Join view now want) (reply.Joined seq time last from base) is =
    let cursor : Cursor = record { view = view; joined = seq; after = from; last_tick = 0 } in
    telling_asked (Answered (Join view now want) (reply.Joined seq time last from base) ∷ []) cursor (Sync seq last from base ∷ []) (Ticking cursor 0) (refl, tt) (refl, tt)
joined_asked (Join view now want) (reply.Refused refusal) is = refused_asked (Answered (Join view now want) (reply.Refused refusal) ∷ []) (refused_frame JOIN_TAG refusal) (refl, tt) refl
joined_asked (Join view now want) (reply.Stamped seq time) is = tt
joined_asked (Join view now want) (reply.Again seq time) is = tt
joined_asked (Join view now want) (reply.Ticked time) is = tt
joined_asked (Join view now want) (reply.Left seq time) is = tt
joined_asked (Join view now want) reply.Kept is = tt
joined_asked (Join view now want) (reply.Batch entries tick) is = tt
joined_asked (Send view joined number payload now) given is = absurd is
joined_asked (Tick now) given is = absurd is
joined_asked (Leave view joined now) given is = absurd is
joined_asked (Offer view joined time bytes) given is = absurd is
joined_asked (Pull after limit) given is = absurd is

acted_asked : (asked : List Exchange) (cursor : Cursor) (frame : ClientFrame) (now : ℕ) (a : Act) → act_on cursor frame now ≡ a → EndNothing asked → AskedTo asked (acted_phase cursor a)
acted_asked asked cursor frame now (Call request) is none = (none, request_fits cursor frame now request is)
acted_asked asked cursor frame now (Answer told) is none = telling_asked asked cursor (told ∷ []) (Ticking cursor 0) none none

read_asked : (asked : List Exchange) (cursor : Cursor) (frame : Option ClientFrame) (now : ℕ) → EndNothing asked → AskedTo asked (read_phase cursor frame now)
read_asked asked cursor None now none = telling_asked asked cursor (unread_frame ∷ []) (Ticking cursor 0) none none
read_asked asked cursor (Some frame) now none = acted_asked asked cursor frame now (act_on cursor frame now) refl none

-- the request of a frame ends a connection by its reply alone
frame_end : (request : Request) (given : Reply) → IsOfFrame request → end_of (Answered request given) ≡ end_in given
frame_end (Join view now want) given is = absurd is
frame_end (Send view joined number payload now) given is = refl
frame_end (Tick now) given is = absurd is
frame_end (Leave view joined now) given is = refl
frame_end (Offer view joined time bytes) given is = refl
frame_end (Pull after limit) given is = absurd is

ending_asked : (asked : List Exchange) (frames : List ServerFrame) (how : Ended) (wants : TalkPhase) → EndsExactly how asked → AskedTo asked wants → AskedTo asked (ending_phase frames how wants)
ending_asked asked frames how wants ends wanting = sending_asked asked frames (Over how) (Over how) wants ends ends wanting

-- a view that has left is told nothing
left_untold : (request : Request) (seq time : ℕ) → answer_frame request (reply.Left seq time) ≡ None
left_untold (Join view now want) seq time = refl
left_untold (Send view joined number payload now) seq time = refl
left_untold (Tick now) seq time = refl
left_untold (Leave view joined now) seq time = refl
left_untold (Offer view joined at bytes) seq time = refl
left_untold (Pull after limit) seq time = refl

-- the request of a frame was answered
answered_asked : (asked : List Exchange) (cursor : Cursor) (request : Request) (given : Reply) → EndNothing asked → IsOfFrame request → AskedTo (asked ++ Answered request given ∷ []) (reply_phase cursor request given)
answered_asked asked cursor request given none of_frame = by_reply given (frame_end request given of_frame)
  where
    ends : (r : Reply) (how : Ended) → end_of (Answered request r) ≡ Some how → EndsByReply how (asked ++ Answered request r ∷ [])
    ends r how is = record { front = asked; last = Answered request r; asked_is = refl; before = none; ends = is }

    goes : (r : Reply) → end_of (Answered request r) ≡ None → EndNothing (asked ++ Answered request r ∷ [])
    goes r is = all_both asked (Answered request r ∷ []) none (is, tt)

    tells : (r : Reply) → end_of (Answered request r) ≡ None → AskedTo (asked ++ Answered request r ∷ []) (telling_phase cursor (answer_frames (answer_frame request r)) (Ticking cursor 0))
    tells r is = telling_asked (asked ++ Answered request r ∷ []) cursor (answer_frames (answer_frame request r)) (Ticking cursor 0) (goes r is) (goes r is)

    leaves_stale : (current : ℕ) → EndsByReply (ended.Stale current) (asked ++ Answered request (reply.Refused (refusal.Stale current)) ∷ []) → (last : Exchange) → IsLastLeave (last ∷ [])
        → LeavesStale ((asked ++ Answered request (reply.Refused (refusal.Stale current)) ∷ []) ++ last ∷ [])
    leaves_stale current stale last leaves = record { current = current; front = asked ++ Answered request (reply.Refused (refusal.Stale current)) ∷ []; leave = last; asked_is = refl; stale = stale; leaves = leaves }

    by_refusal : (r : Refusal) → end_of (Answered request (reply.Refused r)) ≡ end_in (reply.Refused r) → AskedTo (asked ++ Answered request (reply.Refused r) ∷ []) (reply_phase cursor request (reply.Refused r))
    by_refusal (refusal.Stale current) is = ending_asked (asked ++ Answered request (reply.Refused (refusal.Stale current)) ∷ []) (answer_frames (answer_frame request (reply.Refused (refusal.Stale current)))) (ended.Stale current) (Leaving cursor ended.WantOfMemory)
        (ends (reply.Refused (refusal.Stale current)) (ended.Stale current) is) (λ last leaves. inr (leaves_stale current (ends (reply.Refused (refusal.Stale current)) (ended.Stale current) is) last leaves))
    by_refusal (refusal.TooLong len) is = tells (reply.Refused (refusal.TooLong len)) is
    by_refusal (refusal.Differs seq) is = tells (reply.Refused (refusal.Differs seq)) is
    by_refusal (refusal.Gap expected) is = tells (reply.Refused (refusal.Gap expected)) is
    by_refusal (refusal.LogFull entries bytes) is = tells (reply.Refused (refusal.LogFull entries bytes)) is
    by_refusal (refusal.TimeEnd horizon) is = tells (reply.Refused (refusal.TimeEnd horizon)) is
    by_refusal (refusal.ViewsFull here) is = tells (reply.Refused (refusal.ViewsFull here)) is
    by_refusal refusal.BadView is = tells (reply.Refused refusal.BadView) is
    by_refusal (refusal.Ahead horizon) is = tells (reply.Refused (refusal.Ahead horizon)) is
    by_refusal (refusal.Older kept) is = tells (reply.Refused (refusal.Older kept)) is
    by_refusal (refusal.NoSuchSeq len) is = tells (reply.Refused (refusal.NoSuchSeq len)) is

    by_reply : (r : Reply) → end_of (Answered request r) ≡ end_in r → AskedTo (asked ++ Answered request r ∷ []) (reply_phase cursor request r)
    by_reply (reply.Left seq time) is =
        subst (λ (o : Option ServerFrame). AskedTo (asked ++ Answered request (reply.Left seq time) ∷ []) (ending_phase (answer_frames o) ended.Left (Leaving cursor ended.WantOfMemory))) (sym (left_untold request seq time))
        (ends (reply.Left seq time) ended.Left is)
    by_reply (reply.Refused r) is = by_refusal r is
    by_reply (reply.Joined seq time last from base) is = tells (reply.Joined seq time last from base) is
    by_reply (reply.Stamped seq time) is = tells (reply.Stamped seq time) is
    by_reply (reply.Again seq time) is = tells (reply.Again seq time) is
    by_reply (reply.Ticked time) is = tells (reply.Ticked time) is
    by_reply reply.Kept is = tells reply.Kept is
    by_reply (reply.Batch entries tick) is = tells (reply.Batch entries tick) is

missed : (asked : List Exchange) (why : CallFault) → EndNothing asked → EndNothing (asked ++ Unanswered why ∷ [])
missed asked why none = all_both asked (Unanswered why ∷ []) none (refl, tt)

-- a call has no answer, and it leaves
missed_leaves : (asked : List Exchange) (why : CallFault) → EndNothing asked → (last : Exchange) → IsLastLeave (last ∷ []) → EndsExactly (ended_by why) ((asked ++ Unanswered why ∷ []) ++ last ∷ [])
missed_leaves asked fault.WantOfMemory none last leaves = left_ends (asked ++ Unanswered fault.WantOfMemory ∷ []) ended.WantOfMemory (missed asked fault.WantOfMemory none) tt last leaves
missed_leaves asked fault.Unkept none last leaves = record { front = asked; rest = last ∷ []; asked_is = refl; before = none; leaves = leaves }

-- the Join has none
missed_first : (why : CallFault) → EndsExactly (ended_by why) (Unanswered why ∷ [])
missed_first fault.WantOfMemory = inl (none_ends (Unanswered fault.WantOfMemory ∷ []) (refl, tt))
missed_first fault.Unkept = record { front = []; rest = []; asked_is = refl; before = tt; leaves = tt }

opening_row_asked : (asked : List Exchange) (last : Bool) (quiets : ℕ) → asked ≡ [] → AskedTo asked (if last then Over (ended.Idle most_quiets) else Opening quiets)
opening_row_asked asked true quiets is = subst (λ (l : List Exchange). EndsElse l) (sym is) (none_ends [] tt)
opening_row_asked asked false quiets is = is

hearing_row_asked : (asked : List Exchange) (cursor : Cursor) (last : Bool) (quiets : ℕ) → EndNothing asked → AskedTo asked (if last then Leaving cursor (ended.Idle most_quiets) else Ticking cursor quiets)
hearing_row_asked asked cursor true quiets none = left_ends asked (ended.Idle most_quiets) none tt
hearing_row_asked asked cursor false quiets none = none

-- nothing was asked before
at_first : (asked more : List Exchange) (p : TalkPhase) → asked ≡ [] → AskedTo more p → AskedTo (asked ++ more) p
at_first asked more p is h = subst (λ (l : List Exchange). AskedTo (l ++ more) p) (sym is) h

-- one event
step_asked : (id : SessionId) (p : TalkPhase) (event : TalkEvent) (asked : List Exchange) → AskedTo asked p → AskedTo (asked ++ (talk_step id p event).asked) (talk_step id p event).phase
step_asked id (Opening quiets) (Hears (heard.Frame bytes)) asked h = at_first asked [] (Beginning bytes) h refl
step_asked id (Opening quiets) (Hears heard.Quiet) asked h = opening_row_asked (asked ++ []) (quiets + 1 == most_quiets) (quiets + 1) (append-nil asked ∙ h)
step_asked id (Opening quiets) (Hears heard.End) asked h = at_first asked [] (Over ended.LinkEnd) h (none_ends [] tt)
step_asked id (Opening quiets) (Hears heard.Failed) asked h = at_first asked [] (Over ended.LinkFault) h (none_ends [] tt)
step_asked id (Opening quiets) (Hears heard.WantOfMemory) asked h = at_first asked [] (Over ended.WantOfMemory) h (inl (none_ends [] tt))
step_asked id (Beginning bytes) (Reads now) asked h = at_first asked [] (opened_phase id (whole client_at bytes) now) h (read_first id (whole client_at bytes) now)
step_asked id (Beginning bytes) Wants asked h = at_first asked [] (Over ended.WantOfMemory) h (inl (none_ends [] tt))
step_asked id (Joining request) (MakesRequest given) asked h = at_first asked (Answered request given ∷ []) (join_phase request given) h.0 (joined_asked request given h.1)
step_asked id (Joining request) (Misses why) asked h = at_first asked (Unanswered why ∷ []) (Over (ended_by why)) h.0 (missed_first why)
step_asked id (Ticking cursor quiets) (MakesAt now given) asked h = all_both asked (Answered (Tick now) given ∷ []) h (refl, tt)
step_asked id (Ticking cursor quiets) (Misses why) asked h = missed_leaves asked why h
step_asked id (Pulling cursor quiets) (MakesRequest given) asked h =
    let more : EndNothing (asked ++ Answered (Pull cursor.after most_pulled) given ∷ []) = all_both asked (Answered (Pull cursor.after most_pulled) given ∷ []) h (refl, tt) in
    telling_asked (asked ++ Answered (Pull cursor.after most_pulled) given ∷ []) cursor (next_frames cursor given) (Hearing (next_cursor cursor given) quiets) more more
step_asked id (Pulling cursor quiets) (Misses why) asked h = missed_leaves asked why h
step_asked id (Hearing cursor quiets) (Hears (heard.Frame bytes)) asked h = all_both asked [] h tt
step_asked id (Hearing cursor quiets) (Hears heard.Quiet) asked h = hearing_row_asked (asked ++ []) cursor (quiets + 1 == most_quiets) (quiets + 1) (all_both asked [] h tt)
step_asked id (Hearing cursor quiets) (Hears heard.End) asked h = left_ends (asked ++ []) ended.LinkEnd (all_both asked [] h tt) tt
step_asked id (Hearing cursor quiets) (Hears heard.Failed) asked h = left_ends (asked ++ []) ended.LinkFault (all_both asked [] h tt) tt
step_asked id (Hearing cursor quiets) (Hears heard.WantOfMemory) asked h = left_ends (asked ++ []) ended.WantOfMemory (all_both asked [] h tt) tt
step_asked id (Taking cursor bytes) (Reads now) asked h = read_asked (asked ++ []) cursor (whole client_at bytes) now (all_both asked [] h tt)
step_asked id (Taking cursor bytes) Wants asked h = left_ends (asked ++ []) ended.WantOfMemory (all_both asked [] h tt) tt
step_asked id (Asking cursor request) (MakesRequest given) asked h = answered_asked asked cursor request given h.0 h.1
step_asked id (Asking cursor request) (Misses why) asked h = missed_leaves asked why h.0
step_asked id (Sending frame frames next fails wants) Sends asked h = subst (λ (l : List Exchange). AskedTo l (sending_phase frames next fails wants)) (sym (append-nil asked)) (sending_asked asked frames next fails wants h.0 h.1 h.2)
step_asked id (Sending frame frames next fails wants) Loses asked h = subst (λ (l : List Exchange). AskedTo l fails) (sym (append-nil asked)) h.1
step_asked id (Sending frame frames next fails wants) FailsToSend asked h = subst (λ (l : List Exchange). AskedTo l fails) (sym (append-nil asked)) h.1
step_asked id (Sending frame frames next fails wants) Wants asked h = subst (λ (l : List Exchange). AskedTo l wants) (sym (append-nil asked)) h.2
step_asked id (Leaving cursor how) (MakesAt now given) asked h = h (Answered (Leave cursor.view cursor.joined now) given) tt
step_asked id (Leaving cursor how) (Misses why) asked h = h (Unanswered why) tt
step_asked id p event asked h = tt

walk_asked : (id : SessionId) (events : List TalkEvent) (p : TalkPhase) (asked : List Exchange) → AskedTo asked p → AskedTo (asked ++ (talk_walk id p events).asked) (talk_walk id p events).phase
walk_asked id [] p asked h = subst (λ (l : List Exchange). AskedTo l p) (sym (append-nil asked)) h
walk_asked id (event ∷ events) p asked h =
    let first = talk_step id p event in
    subst (λ (l : List Exchange). AskedTo l (talk_walk id first.phase events).phase) (append_assoc asked first.asked (talk_walk id first.phase events).asked)
    (walk_asked id events first.phase (asked ++ first.asked) (step_asked id p event asked h))

-- what a whole talk asked tells how it ended
pub talk_ends : (gives : ℕ → Type 0) (id : SessionId) (opening : PlainSession) (history : List Item) (c : ℕ) (said : List Heard) (sent : List (List ℕ)) (how : Ended) → Talk gives id opening history c said sent how → EndsExactly how (exchanges_in opening history c)
talk_ends gives id opening history c said sent how talk =
    subst (EndsExactly how) (sym talk.asked) (subst (AskedTo (talk_walk id (Opening 0) talk.events).asked) talk.ends (walk_asked id talk.events (Opening 0) [] refl))

-- ---- an end as Unkept

unkept_behind : (shut : Type 0) (front rest : List Exchange) → AllByRecursion (IsUnkeptBy shut) ((front ++ Unanswered fault.Unkept ∷ []) ++ rest) → shut
unkept_behind shut [] rest all = all.0
unkept_behind shut (x ∷ front) rest all = unkept_behind shut front rest all.1

-- it comes only where a call was not kept
pub unkept_shut : (shut : Type 0) (how : Ended) (asked : List Exchange) → EndsExactly how asked → AllByRecursion (IsUnkeptBy shut) asked → how ≡ ended.Unkept → shut
unkept_shut shut how asked ends all is =
    let unkept : EndsUnkept asked = subst (λ (h : Ended). EndsExactly h asked) is ends in
    unkept_behind shut unkept.front unkept.rest (subst (AllByRecursion (IsUnkeptBy shut)) unkept.asked_is all)
