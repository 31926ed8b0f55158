-- A talk that ends holds its view no more, unless a call of it has no answer.
use Rattle.std.proofs.Common.{◌≡◌, ℕ, ◌+◌, ◌==◌, eqb, Bool, true, false, not, ◌&&◌, ◌||◌, if◌then◌else◌, List, [], ◌∷◌, ◌++◌, Option, Some, None, Result, Ok, Err, refl, sym, ap, ◌∙◌, subst, append_assoc, append-nil}
use Rattle.std.proofs.lemmas.Bool.{eqb-true, eq-eqb}
use Rattle.std.specs.Cmp.Derive.{both_true}
use Rattle.byte_fields.specs.Fields.{whole}
use Rattle.tea_base.specs.declared.entry.SessionId.{SessionId}
use Rattle.tea_io.specs.declared.link.Heard.{Heard}
use Rattle.tea_io.specs.declared.link.Heard.TheVariants as heard
use Rattle.tea_io.specs.Links.{most_quiets}
use Rattle.wire_frames.specs.Reading.{client_at}
use Rattle.wire_frames.specs.declared.frame.ClientFrame.{ClientFrame}
use Rattle.wire_frames.specs.declared.frame.ClientFrame.TheVariants as client
use Rattle.wire_frames.specs.declared.frame.ServerFrame.{ServerFrame}
use Rattle.wire_frames.specs.declared.frame.ServerFrame.TheVariants.{Sync}
use Rattle.reflector_core.specs.declared.keeper.CallFault.{CallFault}
use Rattle.reflector_core.specs.declared.keeper.CallFault.TheVariants as fault
use Rattle.reflector_core.specs.declared.request.Request.{Request}
use Rattle.reflector_core.specs.declared.request.Request.TheVariants.{Join, Send, Tick, Leave, Offer, Pull}
use Rattle.reflector_core.specs.declared.request.Reply.{Reply}
use Rattle.reflector_core.specs.declared.request.Reply.TheVariants as reply
use Rattle.reflector_core.specs.declared.request.Refusal.{Refusal}
use Rattle.reflector_core.specs.declared.request.Refusal.TheVariants as refusal
use Rattle.join_sync.specs.declared.cursor.Cursor.{Cursor}
use Rattle.join_sync.specs.declared.early.Early.{Early}
use Rattle.join_sync.specs.Answers.{answer_frame}
use Rattle.join_sync.specs.Batches.{most_pulled, next_cursor, next_frames}
use Rattle.join_sync.specs.Requests.{IsJoin, act_on, first_request}
use Rattle.system_plain.specs.Turn.{answer_frames, ends_connection, open_act, unread_frame}
use Rattle.session_lock.specs.declared.knowledge.Item.{Item}
use Rattle.session_lock.specs.declared.knowledge.Item.TheVariants.{Did, Void, Unkept}
use Rattle.session_lock.specs.History.{after_item}
use Rattle.reflector_core.specs.PlainSession.{PlainSession}
use Rattle.connection.specs.declared.ending.Ended.{Ended}
use Rattle.connection.specs.declared.ending.Ended.TheVariants as ended
use Rattle.connection.specs.Exchanges.{Exchange, Answered, Unanswered, exchanges_from, exchanges_in}
use Rattle.connection.specs.Phases.{TalkPhase, Opening, Beginning, Joining, Ticking, Pulling, Hearing, Taking, Asking, Sending, Leaving, Over, Wrong, TalkEvent, Hears, Reads, MakesRequest, MakesAt, Misses, Sends, Loses, FailsToSend, Wants, acted_phase, ending_phase, entered_phase, join_phase, opened_phase, read_phase, reply_phase, sending_phase, talk_step, talk_walk, telling_phase}
use Rattle.connection.specs.Talk.{Talk}
use Rattle.connection.proofs.Callers.{first_is_join}
use Rattle.reflect_server.specs.Views.{opens_view, closes_view, has_miss, holds}
use Rattle.reflect_server.proofs.HeldViews.{holds_behind}

-- some call has no answer
abbrev missed_some : List Exchange → Bool
missed_some [] = false
missed_some (Answered request given ∷ rest) = missed_some rest
missed_some (Unanswered why ∷ rest) = true

missed_last : (asked : List Exchange) (why : CallFault) → missed_some (asked ++ Unanswered why ∷ []) ≡ true
missed_last [] why = refl
missed_last (Answered request given ∷ rest) why = missed_last rest why
missed_last (Unanswered other ∷ rest) why = refl

-- what is held is the cursor's view, by its Join
abbrev HoldsOwn : Cursor → List Exchange → Type 0
HoldsOwn cursor asked = (v j : ℕ) → holds v j asked ≡ true → (cursor.view ≡ v) × (cursor.joined ≡ j)

-- nothing is held, or some call has no answer
abbrev IsOut : List Exchange → Type 0
IsOut asked = (v j : ℕ) → holds v j asked ≡ true → missed_some asked ≡ true

-- the request is that of the cursor's view
abbrev IsOwn : Cursor → Request → Type 0
IsOwn cursor (Join view now want) = ⊥
IsOwn cursor (Send view joined number payload now) = (view ≡ cursor.view) × (joined ≡ cursor.joined)
IsOwn cursor (Tick now) = ⊥
IsOwn cursor (Leave view joined now) = (view ≡ cursor.view) × (joined ≡ cursor.joined)
IsOwn cursor (Offer view joined time bytes) = (view ≡ cursor.view) × (joined ≡ cursor.joined)
IsOwn cursor (Pull after limit) = ⊥

-- ---- one exchange more

held_before : (b c : Bool) → (false || (b && not c)) ≡ true → (b ≡ true) × (c ≡ false)
held_before true true is = absurd (cc (is))
held_before true false is = (refl, refl)
held_before false c is = absurd (cc (is))

module _ (asked : List Exchange) (exchange : Exchange) (v j : ℕ) (other : opens_view v j exchange ≡ false) (is : holds v j (asked ++ exchange ∷ []) ≡ true) where
  was_held : (holds v j asked ≡ true) × (closes_view v j exchange ≡ false)
  was_held =
      held_before (holds v j asked) (closes_view v j exchange)
      (ap (λ (b : Bool). b || (holds v j asked && not (closes_view v j exchange))) (sym other) ∙ (sym (holds_behind v j false asked (exchange ∷ [])) ∙ is))

own_more : (cursor : Cursor) (asked : List Exchange) (exchange : Exchange) → ((v j : ℕ) → opens_view v j exchange ≡ false) → HoldsOwn cursor asked → HoldsOwn cursor (asked ++ exchange ∷ [])
own_more cursor asked exchange other own v j is = own v j (was_held asked exchange v j (other v j) is).0

out_more : (cursor : Cursor) (asked : List Exchange) (exchange : Exchange) → ((v j : ℕ) → opens_view v j exchange ≡ false) → closes_view cursor.view cursor.joined exchange ≡ true
    → HoldsOwn cursor asked → IsOut (asked ++ exchange ∷ [])
out_more cursor asked exchange other closing own v j is =
    let was = was_held asked exchange v j (other v j) is in
    let mine = own v j was.0 in
    absurd (cc (sym (ap (λ (n : ℕ). closes_view n cursor.joined exchange) mine.0 ∙ ap (λ (n : ℕ). closes_view v n exchange) mine.1) ∙ closing, was.1))

out_missed : (asked : List Exchange) (why : CallFault) → IsOut (asked ++ Unanswered why ∷ [])
out_missed asked why v j is = missed_last asked why

own_opens : (cursor : Cursor) (request : Request) (given : Reply) → IsOwn cursor request → (v j : ℕ) → opens_view v j (Answered request given) ≡ false
own_opens cursor (Join view now want) given own v j = absurd own
own_opens cursor (Send view joined number payload now) given own v j = refl
own_opens cursor (Tick now) given own v j = absurd own
own_opens cursor (Leave view joined now) given own v j = refl
own_opens cursor (Offer view joined time bytes) given own v j = refl
own_opens cursor (Pull after limit) given own v j = absurd own

own_closes : (cursor : Cursor) (request : Request) (given : Reply) → IsOwn cursor request → ends_connection given ≡ true → closes_view cursor.view cursor.joined (Answered request given) ≡ true
own_closes cursor (Join view now want) given own ends = absurd own
own_closes cursor (Send view joined number payload now) given own ends = both_true (both_true (eq-eqb view cursor.view own.0) (eq-eqb joined cursor.joined own.1)) ends
own_closes cursor (Tick now) given own ends = absurd own
own_closes cursor (Leave view joined now) given own ends = both_true (eq-eqb view cursor.view own.0) (eq-eqb joined cursor.joined own.1)
own_closes cursor (Offer view joined time bytes) given own ends = both_true (both_true (eq-eqb view cursor.view own.0) (eq-eqb joined cursor.joined own.1)) ends
own_closes cursor (Pull after limit) given own ends = absurd own

-- ---- phases

-- what is held where a connection stands in a phase
abbrev HeldIn : List Exchange → TalkPhase → Type 0
HeldIn asked (Opening quiets) = asked ≡ []
HeldIn asked (Beginning bytes) = asked ≡ []
HeldIn asked (Joining request) = (asked ≡ []) × IsJoin request
HeldIn asked (Ticking cursor quiets) = HoldsOwn cursor asked
HeldIn asked (Pulling cursor quiets) = HoldsOwn cursor asked
HeldIn asked (Hearing cursor quiets) = HoldsOwn cursor asked
HeldIn asked (Taking cursor bytes) = HoldsOwn cursor asked
HeldIn asked (Asking cursor request) = HoldsOwn cursor asked × IsOwn cursor request
HeldIn asked (Sending frame frames next fails wants) = HeldIn asked next × HeldIn asked fails × HeldIn asked wants
HeldIn asked (Leaving cursor how) = HoldsOwn cursor asked
HeldIn asked (Over how) = IsOut asked
HeldIn asked Wrong = Unit {0}

sending_held : (asked : List Exchange) (frames : List ServerFrame) (next fails wants : TalkPhase) → HeldIn asked next → HeldIn asked fails → HeldIn asked wants → HeldIn asked (sending_phase frames next fails wants)
sending_held asked [] next fails wants h failing wanting = h
sending_held asked (frame ∷ frames) next fails wants h failing wanting = (h, failing, wanting)

telling_held : (asked : List Exchange) (cursor : Cursor) (frames : List ServerFrame) (next : TalkPhase) → HoldsOwn cursor asked → HeldIn asked next → HeldIn asked (telling_phase cursor frames next)
telling_held asked cursor frames next own h = sending_held asked frames next (Leaving cursor ended.LinkFault) (Leaving cursor ended.WantOfMemory) h own own

ending_held : (asked : List Exchange) (frames : List ServerFrame) (how : Ended) (wants : TalkPhase) → IsOut asked → HeldIn asked wants → HeldIn asked (ending_phase frames how wants)
ending_held asked frames how wants out wanting = sending_held asked frames (Over how) (Over how) wants out out wanting

nothing_held : IsOut []
nothing_held v j is = absurd (cc (is))

opened_held : (id : SessionId) (frame : ClientFrame) (now : ℕ) (r : Result Request Early) → first_request frame id now ≡ r → HeldIn [] (entered_phase (open_act frame r))
opened_held id frame now (Ok request) is = (refl, first_is_join frame id now request is)
opened_held id frame now (Err early) is = (nothing_held, nothing_held, nothing_held)

read_held_first : (id : SessionId) (frame : Option ClientFrame) (now : ℕ) → HeldIn [] (opened_phase id frame now)
read_held_first id None now = (nothing_held, nothing_held, nothing_held)
read_held_first id (Some frame) now = opened_held id frame now (first_request frame id now) refl

or_nothing : (b : Bool) → (b || false) ≡ true → b ≡ true
or_nothing true is = refl
or_nothing false is = absurd (cc (is))

both_parts : (a b : Bool) → (a && b) ≡ true → (a ≡ true) × (b ≡ true)
both_parts true b is = (refl, is)
both_parts false b is = absurd (cc (is))

joined_held : (request : Request) (given : Reply) → IsJoin request → HeldIn (Answered request given ∷ []) (join_phase request given)
joined_held (Join view now want) (reply.Joined seq time last from base) is =
    let cursor : Cursor = record { view = view; joined = seq; after = from; last_tick = 0 } in
    let own : HoldsOwn cursor (Answered (Join view now want) (reply.Joined seq time last from base) ∷ []) =
    (λ v j held.
    let both = both_parts (view == v) (seq == j) (or_nothing ((view == v) && (seq == j)) held) in
    (eqb-true view v both.0, eqb-true seq j both.1)) in
    telling_held (Answered (Join view now want) (reply.Joined seq time last from base) ∷ []) cursor (Sync seq last from base ∷ []) (Ticking cursor 0) own own
joined_held (Join view now want) (reply.Refused given) is =
    let out : IsOut (Answered (Join view now want) (reply.Refused given) ∷ []) = (λ v j held. absurd (cc (held))) in (out, out, out)
joined_held (Join view now want) (reply.Stamped seq time) is = tt
joined_held (Join view now want) (reply.Again seq time) is = tt
joined_held (Join view now want) (reply.Ticked time) is = tt
joined_held (Join view now want) (reply.Left seq time) is = tt
joined_held (Join view now want) reply.Kept is = tt
joined_held (Join view now want) (reply.Batch entries tick) is = tt
joined_held (Send view joined number payload now) given is = absurd is
joined_held (Tick now) given is = absurd is
joined_held (Leave view joined now) given is = absurd is
joined_held (Offer view joined time bytes) given is = absurd is
joined_held (Pull after limit) given is = absurd is

acted_held : (asked : List Exchange) (cursor : Cursor) (frame : ClientFrame) (now : ℕ) → HoldsOwn cursor asked → HeldIn asked (acted_phase cursor (act_on cursor frame now))
acted_held asked cursor (client.Join session view want) now own = (own, own, own)
acted_held asked cursor (client.Send number payload) now own = (own, (refl, refl))
acted_held asked cursor (client.Snap time bytes) now own = (own, (refl, refl))
acted_held asked cursor client.Leave now own = (own, (refl, refl))
acted_held asked cursor client.Alive now own = (own, own, own)

read_held : (asked : List Exchange) (cursor : Cursor) (frame : Option ClientFrame) (now : ℕ) → HoldsOwn cursor asked → HeldIn asked (read_phase cursor frame now)
read_held asked cursor None now own = telling_held asked cursor (unread_frame ∷ []) (Ticking cursor 0) own own
read_held asked cursor (Some frame) now own = acted_held asked cursor frame now own

-- the request of a frame was answered
answered_held : (asked : List Exchange) (cursor : Cursor) (request : Request) (given : Reply) → HoldsOwn cursor asked → IsOwn cursor request
    → HeldIn (asked ++ Answered request given ∷ []) (reply_phase cursor request given)
answered_held asked cursor request given own mine = by_reply given
  where
    tells : (r : Reply) → HeldIn (asked ++ Answered request r ∷ []) (telling_phase cursor (answer_frames (answer_frame request r)) (Ticking cursor 0))
    tells r =
        let more = own_more cursor asked (Answered request r) (own_opens cursor request r mine) own in
        telling_held (asked ++ Answered request r ∷ []) cursor (answer_frames (answer_frame request r)) (Ticking cursor 0) more more

    ends : (r : Reply) (how : Ended) → ends_connection r ≡ true
        → HeldIn (asked ++ Answered request r ∷ []) (ending_phase (answer_frames (answer_frame request r)) how (Leaving cursor ended.WantOfMemory))
    ends r how is =
        ending_held (asked ++ Answered request r ∷ []) (answer_frames (answer_frame request r)) how (Leaving cursor ended.WantOfMemory)
        (out_more cursor asked (Answered request r) (own_opens cursor request r mine) (own_closes cursor request r mine is) own)
        (own_more cursor asked (Answered request r) (own_opens cursor request r mine) own)

    by_refusal : (r : Refusal) → HeldIn (asked ++ Answered request (reply.Refused r) ∷ []) (reply_phase cursor request (reply.Refused r))
    by_refusal (refusal.Stale current) = ends (reply.Refused (refusal.Stale current)) (ended.Stale current) refl
    by_refusal (refusal.TooLong len) = tells (reply.Refused (refusal.TooLong len))
    by_refusal (refusal.Differs seq) = tells (reply.Refused (refusal.Differs seq))
    by_refusal (refusal.Gap expected) = tells (reply.Refused (refusal.Gap expected))
    by_refusal (refusal.LogFull entries bytes) = tells (reply.Refused (refusal.LogFull entries bytes))
    by_refusal (refusal.TimeEnd horizon) = tells (reply.Refused (refusal.TimeEnd horizon))
    by_refusal (refusal.ViewsFull here) = tells (reply.Refused (refusal.ViewsFull here))
    by_refusal refusal.BadView = tells (reply.Refused refusal.BadView)
    by_refusal (refusal.Ahead horizon) = tells (reply.Refused (refusal.Ahead horizon))
    by_refusal (refusal.Older kept) = tells (reply.Refused (refusal.Older kept))
    by_refusal (refusal.NoSuchSeq len) = tells (reply.Refused (refusal.NoSuchSeq len))

    by_reply : (r : Reply) → HeldIn (asked ++ Answered request r ∷ []) (reply_phase cursor request r)
    by_reply (reply.Left seq time) = ends (reply.Left seq time) ended.Left refl
    by_reply (reply.Refused r) = by_refusal r
    by_reply (reply.Joined seq time last from base) = tells (reply.Joined seq time last from base)
    by_reply (reply.Stamped seq time) = tells (reply.Stamped seq time)
    by_reply (reply.Again seq time) = tells (reply.Again seq time)
    by_reply (reply.Ticked time) = tells (reply.Ticked time)
    by_reply reply.Kept = tells reply.Kept
    by_reply (reply.Batch entries tick) = tells (reply.Batch entries tick)

-- the cursor behind a batch is of the same Join
next_own : (asked : List Exchange) (cursor : Cursor) (given : Reply) → HoldsOwn cursor asked → HoldsOwn (next_cursor cursor given) asked
next_own asked cursor (reply.Batch entries tick) own = own
next_own asked cursor (reply.Joined seq time last from base) own = own
next_own asked cursor (reply.Stamped seq time) own = own
next_own asked cursor (reply.Again seq time) own = own
next_own asked cursor (reply.Ticked time) own = own
next_own asked cursor (reply.Left seq time) own = own
next_own asked cursor reply.Kept own = own
next_own asked cursor (reply.Refused given) own = own

opening_row_held : (asked : List Exchange) (last : Bool) (quiets : ℕ) → asked ≡ [] → HeldIn asked (if last then Over (ended.Idle most_quiets) else Opening quiets)
opening_row_held asked true quiets is = subst IsOut (sym is) nothing_held
opening_row_held asked false quiets is = is

hearing_row_held : (asked : List Exchange) (cursor : Cursor) (last : Bool) (quiets : ℕ) → HoldsOwn cursor asked → HeldIn asked (if last then Leaving cursor (ended.Idle most_quiets) else Ticking cursor quiets)
hearing_row_held asked cursor true quiets own = own
hearing_row_held asked cursor false quiets own = own

first_held : (asked more : List Exchange) (p : TalkPhase) → asked ≡ [] → HeldIn more p → HeldIn (asked ++ more) p
first_held asked more p is h = subst (λ (l : List Exchange). HeldIn (l ++ more) p) (sym is) h

same_held : (asked : List Exchange) (p : TalkPhase) → HeldIn asked p → HeldIn (asked ++ []) p
same_held asked p h = subst (λ (l : List Exchange). HeldIn l p) (sym (append-nil asked)) h

missed_own : (asked : List Exchange) (why : CallFault) (cursor : Cursor) → HoldsOwn cursor asked → HoldsOwn cursor (asked ++ Unanswered why ∷ [])
missed_own asked why cursor own = own_more cursor asked (Unanswered why) (λ v j. refl) own

-- one event
step_held : (id : SessionId) (p : TalkPhase) (event : TalkEvent) (asked : List Exchange) → HeldIn asked p → HeldIn (asked ++ (talk_step id p event).asked) (talk_step id p event).phase
step_held id (Opening quiets) (Hears (heard.Frame bytes)) asked h = first_held asked [] (Beginning bytes) h refl
step_held id (Opening quiets) (Hears heard.Quiet) asked h = opening_row_held (asked ++ []) (quiets + 1 == most_quiets) (quiets + 1) (append-nil asked ∙ h)
step_held id (Opening quiets) (Hears heard.End) asked h = first_held asked [] (Over ended.LinkEnd) h nothing_held
step_held id (Opening quiets) (Hears heard.Failed) asked h = first_held asked [] (Over ended.LinkFault) h nothing_held
step_held id (Opening quiets) (Hears heard.WantOfMemory) asked h = first_held asked [] (Over ended.WantOfMemory) h nothing_held
step_held id (Beginning bytes) (Reads now) asked h = first_held asked [] (opened_phase id (whole client_at bytes) now) h (read_held_first id (whole client_at bytes) now)
step_held id (Beginning bytes) Wants asked h = first_held asked [] (Over ended.WantOfMemory) h nothing_held
step_held id (Joining request) (MakesRequest given) asked h = first_held asked (Answered request given ∷ []) (join_phase request given) h.0 (joined_held request given h.1)
step_held id (Joining request) (Misses why) asked h = out_missed asked why
step_held id (Ticking cursor quiets) (MakesAt now given) asked h = own_more cursor asked (Answered (Tick now) given) (λ v j. refl) h
step_held id (Ticking cursor quiets) (Misses why) asked h = missed_own asked why cursor h
step_held id (Pulling cursor quiets) (MakesRequest given) asked h =
    let more = own_more cursor asked (Answered (Pull cursor.after most_pulled) given) (λ v j. refl) h in
    telling_held (asked ++ Answered (Pull cursor.after most_pulled) given ∷ []) cursor (next_frames cursor given) (Hearing (next_cursor cursor given) quiets) more
    (next_own (asked ++ Answered (Pull cursor.after most_pulled) given ∷ []) cursor given more)
step_held id (Pulling cursor quiets) (Misses why) asked h = missed_own asked why cursor h
step_held id (Hearing cursor quiets) (Hears (heard.Frame bytes)) asked h = same_held asked (Taking cursor bytes) h
step_held id (Hearing cursor quiets) (Hears heard.Quiet) asked h = hearing_row_held (asked ++ []) cursor (quiets + 1 == most_quiets) (quiets + 1) (same_held asked (Ticking cursor 0) h)
step_held id (Hearing cursor quiets) (Hears heard.End) asked h = same_held asked (Leaving cursor ended.LinkEnd) h
step_held id (Hearing cursor quiets) (Hears heard.Failed) asked h = same_held asked (Leaving cursor ended.LinkFault) h
step_held id (Hearing cursor quiets) (Hears heard.WantOfMemory) asked h = same_held asked (Leaving cursor ended.WantOfMemory) h
step_held id (Taking cursor bytes) (Reads now) asked h = read_held (asked ++ []) cursor (whole client_at bytes) now (same_held asked (Ticking cursor 0) h)
step_held id (Taking cursor bytes) Wants asked h = same_held asked (Leaving cursor ended.WantOfMemory) h
step_held id (Asking cursor request) (MakesRequest given) asked h = answered_held asked cursor request given h.0 h.1
step_held id (Asking cursor request) (Misses why) asked h = missed_own asked why cursor h.0
step_held id (Sending frame frames next fails wants) Sends asked h = same_held asked (sending_phase frames next fails wants) (sending_held asked frames next fails wants h.0 h.1 h.2)
step_held id (Sending frame frames next fails wants) Loses asked h = same_held asked fails h.1
step_held id (Sending frame frames next fails wants) FailsToSend asked h = same_held asked fails h.1
step_held id (Sending frame frames next fails wants) Wants asked h = same_held asked wants h.2
step_held id (Leaving cursor how) (MakesAt now given) asked h =
    out_more cursor asked (Answered (Leave cursor.view cursor.joined now) given) (λ v j. refl)
    (both_true (eq-eqb cursor.view cursor.view refl) (eq-eqb cursor.joined cursor.joined refl)) h
step_held id (Leaving cursor how) (Misses why) asked h = out_missed asked why
step_held id p event asked h = tt

walk_held : (id : SessionId) (events : List TalkEvent) (p : TalkPhase) (asked : List Exchange) → HeldIn asked p → HeldIn (asked ++ (talk_walk id p events).asked) (talk_walk id p events).phase
walk_held id [] p asked h = subst (λ (l : List Exchange). HeldIn l p) (sym (append-nil asked)) h
walk_held id (event ∷ events) p asked h =
    let first = talk_step id p event in
    subst (λ (l : List Exchange). HeldIn l (talk_walk id first.phase events).phase) (append_assoc asked first.asked (talk_walk id first.phase events).asked)
    (walk_held id events first.phase (asked ++ first.asked) (step_held id p event asked h))

-- ---- a caller in a history

missed_both : (b : Bool) (why : CallFault) (rest : List Exchange) (h : Bool) → (missed_some rest ≡ true → h ≡ true) → missed_some ((if b then Unanswered why ∷ [] else []) ++ rest) ≡ true → (b || h) ≡ true
missed_both true why rest h go is = refl
missed_both false why rest h go is = go is

missed_skip : (b : Bool) (request : Request) (given : Reply) (rest : List Exchange) → missed_some ((if b then Answered request given ∷ [] else []) ++ rest) ≡ true → missed_some rest ≡ true
missed_skip true request given rest is = is
missed_skip false request given rest is = is

miss_from : (s : PlainSession) (c : ℕ) (items : List Item) → missed_some (exchanges_from s c items) ≡ true → has_miss c items ≡ true
miss_from s c [] is = is
miss_from s c (Did who request ∷ rest) is =
    miss_from (after_item s (Did who request)) c rest (missed_skip (eqb who c) request _ (exchanges_from (after_item s (Did who request)) c rest) is)
miss_from s c (Void who ∷ rest) is = missed_both (eqb who c) fault.WantOfMemory (exchanges_from s c rest) (has_miss c rest) (miss_from s c rest) is
miss_from s c (Unkept who ∷ rest) is = missed_both (eqb who c) fault.Unkept (exchanges_from s c rest) (has_miss c rest) (miss_from s c rest) is

-- who still holds a view behind its talk has made a call without an answer
pub talk_holds : (gives : ℕ → Type 0) (id : SessionId) (opening : PlainSession) (history : List Item) (c : ℕ) (said : List Heard) (sent : List (List ℕ)) (how : Ended) (v j : ℕ) → Talk gives id opening history c said sent how
    → holds v j (exchanges_in opening history c) ≡ true → has_miss c history ≡ true
talk_holds gives id opening history c said sent how v j talk held =
    let out : IsOut (talk_walk id (Opening 0) talk.events).asked =
    subst (HeldIn (talk_walk id (Opening 0) talk.events).asked) talk.ends (walk_held id talk.events (Opening 0) [] refl) in
    miss_from opening c history (subst (λ (l : List Exchange). missed_some l ≡ true) (sym talk.asked) (out v j (subst (λ (l : List Exchange). holds v j l ≡ true) talk.asked held)))
