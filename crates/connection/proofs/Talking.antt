-- Talks go on.
use Rattle.std.proofs.Common.{◌≡◌, ◌≢◌, ◌⊎◌, inl, inr, ℕ, ◌+◌, ◌<◌, ◌≤◌, ◌==◌, zero, suc, Bool, true, false, List, [], ◌∷◌, ◌++◌, if◌then◌else◌, map, length, drop, get_or, unwrap_or, Option, Some, None, Result, Ok, Err, refl, sym, ap, ◌∙◌, subst, append_assoc, ne_eqb, eq-eqb, arith}
use Rattle.std.specs.List.{AllByRecursion}
use Rattle.std.specs.Prelude.{IsErrAnd}
use Rattle.std.proofs.lemmas.List.{append-nil, drop_more}
use Rattle.std.proofs.lemmas.Result.{err_from_is_err_and}
use Rattle.tea_base.specs.declared.entry.SessionId.{SessionId}
use Rattle.tea_io.specs.Told.{with_more, Rose}
use Rattle.tea_io.specs.Links.{CountRises, NoneFalls, SendCause, Sends as LinkSends, most_quiets, note_of}
use Rattle.tea_io.specs.declared.link.Heard.{Heard}
use Rattle.tea_io.specs.declared.link.Heard.TheVariants as heard
use Rattle.tea_io.specs.declared.link.LinkFault.{LinkFault}
use Rattle.tea_io.specs.declared.link.LinkFault.TheVariants as fault
use Rattle.wire_frames.specs.Frames.{IsServerFrame}
use Rattle.wire_frames.specs.Spelling.{server_spelling}
use Rattle.byte_fields.specs.Fields.{whole}
use Rattle.wire_frames.specs.Answer.{ReadsFrame}
use Rattle.wire_frames.specs.Reading.{client_at}
use Rattle.wire_frames.specs.declared.fault.FrameFault.{FrameFault}
use Rattle.wire_frames.specs.declared.fault.FrameFault.TheVariants as unread
use Rattle.wire_frames.specs.declared.frame.ServerFrame.{ServerFrame}
use Rattle.tea_base.specs.declared.entry.Entry.{Entry}
use Rattle.reflector_core.specs.declared.keeper.CallFault.{CallFault}
use Rattle.reflector_core.specs.declared.request.Reply.{Reply}
use Rattle.reflector_core.specs.declared.request.Reply.TheVariants as reply
use Rattle.reflector_core.specs.declared.request.Request.TheVariants.{Join, Send, Tick, Leave, Offer, Pull}
use Rattle.std.specs.Str.{bytes_eq}
use Rattle.wire_frames.specs.declared.frame.ClientFrame.{ClientFrame}
use Rattle.wire_frames.specs.declared.frame.ClientFrame.TheVariants as client
use Rattle.join_sync.specs.declared.act.Act.TheVariants.{Call}
use Rattle.join_sync.specs.declared.early.Early.TheVariants.{OtherSession}
use Rattle.join_sync.specs.Answers.{answer_frame, first_cursor, join_answer}
use Rattle.join_sync.specs.Requests.{act_on, first_request}
use Rattle.system_plain.specs.Turn.{answer_frames, joined_view}
use Rattle.reflector_core.specs.declared.request.Request.{Request}
use Rattle.reflector_core.specs.PlainSession.{PlainSession}
use Rattle.session_lock.specs.declared.knowledge.Item.{Item}
use Rattle.session_lock.specs.History.{calls_of}
use Rattle.session_lock.specs.Passes.{PassState, caller}
use Rattle.join_sync.specs.declared.cursor.Cursor.{Cursor}
use Rattle.join_sync.specs.Batches.{entry_frames, most_pulled, newer_tick, next_cursor, next_frames, tick_frames}
use Rattle.connection.specs.declared.ending.Ended.{Ended}
use Rattle.connection.specs.declared.ending.Ended.TheVariants as ended
use Rattle.connection.specs.declared.ending.Halt.{Halt}
use Rattle.connection.specs.Exchanges.{Exchange, Answered, Unanswered, exchanges_in, IsAskedInTime, IsMadeSo, IsUnkeptBy}
use Rattle.connection.specs.Standing.{SeesOn, exchange_of}
use Rattle.connection.specs.Phases.{TalkPhase, Opening, Joining, Ticking, Pulling, Hearing, Asking, Sending, Leaving, Over, TalkEvent, Hears, Reads, MakesRequest, MakesAt, Misses, Sends, Loses, FailsToSend, Wants, answered_by, end_in, ending_phase, greeted_phase, halt_phase, heard_by, heard_in, hearing, hearing_row, join_phase, opening, opening_row, pulled_phase, reply_phase, sending_phase, talk_step, talk_walk, telling_phase}
use Rattle.connection.specs.Talk.{Account, EventCounts, LinkAccount, SendsSpelled, Talk, TalksOn, TalksOrHalts, account, asked_by}
use Rattle.connection.proofs.Callers.{exchanges_same, sees_still, sees_then}
use Rattle.connection.proofs.Counting.{count_on, count_one, none_falls}

-- ---- lists that are told

pub with_more_none : {A : Type 0} (told : Option (List A)) → with_more told [] ≡ told
with_more_none None = refl
with_more_none (Some told) = ap (λ l. Some l) (append-nil told)

pub with_more_twice : {A : Type 0} (told : Option (List A)) (xs ys : List A) → with_more (with_more told xs) ys ≡ with_more told (xs ++ ys)
with_more_twice None xs ys = refl
with_more_twice (Some told) xs ys = ap (λ l. Some l) (append_assoc told xs ys)

map_both : (xs ys : List ServerFrame) → map server_spelling (xs ++ ys) ≡ map server_spelling xs ++ map server_spelling ys
map_both [] ys = refl
map_both (x ∷ xs) ys = ap (λ (l : List (List ℕ)). server_spelling x ∷ l) (map_both xs ys)

all_both : {A : Type 0} (P : A → Type 0) (xs ys : List A) → AllByRecursion P xs → AllByRecursion P ys → AllByRecursion P (xs ++ ys)
all_both P [] ys all more = more
all_both P (x ∷ xs) ys all more = (all.0, all_both P xs ys all.1 more)

-- ---- walks one after the other

walk_phase : (id : SessionId) (p : TalkPhase) (xs ys : List TalkEvent) → (talk_walk id p (xs ++ ys)).phase ≡ (talk_walk id (talk_walk id p xs).phase ys).phase
walk_phase id p [] ys = refl
walk_phase id p (x ∷ xs) ys = walk_phase id (talk_step id p x).phase xs ys

walk_asked : (id : SessionId) (p : TalkPhase) (xs ys : List TalkEvent) → (talk_walk id p (xs ++ ys)).asked ≡ (talk_walk id p xs).asked ++ (talk_walk id (talk_walk id p xs).phase ys).asked
walk_asked id p [] ys = refl
walk_asked id p (x ∷ xs) ys =
    let q = (talk_step id p x).phase in
    ap (λ (l : List Exchange). (talk_step id p x).asked ++ l) (walk_asked id q xs ys)
    ∙ sym (append_assoc (talk_step id p x).asked (talk_walk id q xs).asked (talk_walk id (talk_walk id q xs).phase ys).asked)

walk_sent : (id : SessionId) (p : TalkPhase) (xs ys : List TalkEvent) → (talk_walk id p (xs ++ ys)).sent ≡ (talk_walk id p xs).sent ++ (talk_walk id (talk_walk id p xs).phase ys).sent
walk_sent id p [] ys = refl
walk_sent id p (x ∷ xs) ys =
    let q = (talk_step id p x).phase in
    ap (λ (l : List ServerFrame). (talk_step id p x).sent ++ l) (walk_sent id q xs ys)
    ∙ sym (append_assoc (talk_step id p x).sent (talk_walk id q xs).sent (talk_walk id (talk_walk id q xs).phase ys).sent)

heard_both : (xs ys : List TalkEvent) → heard_in (xs ++ ys) ≡ heard_in xs ++ heard_in ys
heard_both [] ys = refl
heard_both (x ∷ xs) ys = ap (λ (l : List Heard). heard_by x ++ l) (heard_both xs ys) ∙ sym (append_assoc (heard_by x) (heard_in xs) (heard_in ys))

-- ---- talks one after the other

-- nothing has come
pub talks_still : (made : Exchange → Type 0) (id : SessionId) (p : TalkPhase) (a : Account) → TalksOn made id p p a a
talks_still made id p a = record {
  events = [];
  ends = refl;
  asked = sym (append-nil (asked_by a.pass));
  sees = sees_still a.pass;
  heard = sym (with_more_none a.link.heard);
  sent = sym (with_more_none a.link.sent);
  counts = refl;
  spelled = tt;
  calls = tt;
}

pub talks_then : (made : Exchange → Type 0) (id : SessionId) (p q r : TalkPhase) (a b c : Account) → TalksOn made id p q a b → TalksOn made id q r b c → TalksOn made id p r a c
talks_then made id p q r a b c f g =
    let there : (talk_walk id p f.events).phase ≡ q = f.ends in
    let asked : (talk_walk id p (f.events ++ g.events)).asked ≡ (talk_walk id p f.events).asked ++ (talk_walk id q g.events).asked =
    walk_asked id p f.events g.events ∙ ap (λ (x : TalkPhase). (talk_walk id p f.events).asked ++ (talk_walk id x g.events).asked) there in
    let sent : (talk_walk id p (f.events ++ g.events)).sent ≡ (talk_walk id p f.events).sent ++ (talk_walk id q g.events).sent =
    walk_sent id p f.events g.events ∙ ap (λ (x : TalkPhase). (talk_walk id p f.events).sent ++ (talk_walk id x g.events).sent) there in
    record {
      events = f.events ++ g.events;
      ends = walk_phase id p f.events g.events ∙ (ap (λ (x : TalkPhase). (talk_walk id x g.events).phase) there ∙ g.ends);
      asked =
          g.asked
          ∙ (ap (λ (l : List Exchange). l ++ (talk_walk id q g.events).asked) f.asked
          ∙ (append_assoc (asked_by a.pass) (talk_walk id p f.events).asked (talk_walk id q g.events).asked ∙ ap (λ (l : List Exchange). asked_by a.pass ++ l) (sym asked)));
      sees = sees_then a.pass b.pass c.pass f.sees g.sees;
      heard =
          g.heard
          ∙ (ap (λ (l : Option (List Heard)). with_more l (heard_in g.events)) f.heard
          ∙ (with_more_twice a.link.heard (heard_in f.events) (heard_in g.events) ∙ ap (λ (l : List Heard). with_more a.link.heard l) (sym (heard_both f.events g.events))));
      sent =
          g.sent
          ∙ (ap (λ (l : Option (List (List ℕ))). with_more l (map server_spelling (talk_walk id q g.events).sent)) f.sent
          ∙ (with_more_twice a.link.sent (map server_spelling (talk_walk id p f.events).sent) (map server_spelling (talk_walk id q g.events).sent)
          ∙ ap (λ (l : List (List ℕ)). with_more a.link.sent l) (sym (ap (map server_spelling) sent ∙ map_both (talk_walk id p f.events).sent (talk_walk id q g.events).sent))));
      counts = count_on f.events g.events a.link.counts b.link.counts c.link.counts f.counts g.counts;
      spelled = subst (AllByRecursion IsServerFrame) (sym sent) (all_both IsServerFrame (talk_walk id p f.events).sent (talk_walk id q g.events).sent f.spelled g.spelled);
      calls = subst (AllByRecursion made) (sym asked) (all_both made (talk_walk id p f.events).asked (talk_walk id q g.events).asked f.calls g.calls);
    }

pub talks_to : (made : Exchange → Type 0) (id : SessionId) (p q r : TalkPhase) (a b : Account) → r ≡ q → TalksOn made id p q a b → TalksOn made id p r a b
talks_to made id p q r a b is f = subst (λ (x : TalkPhase). TalksOn made id p x a b) (sym is) f

pub talks_from : (made : Exchange → Type 0) (id : SessionId) (p q r : TalkPhase) (a b : Account) → p ≡ q → TalksOn made id q r a b → TalksOn made id p r a b
talks_from made id p q r a b is f = subst (λ (x : TalkPhase). TalksOn made id x r a b) (sym is) f

-- it goes on, whether it then halts or not
pub then_either : {T : Type 0} (made : Exchange → Type 0) (id : SessionId) (r : Result T Halt) (to : T → TalkPhase) (p q : TalkPhase) (a b c : Account) → TalksOn made id p q a b
    → TalksOrHalts made id q to r b c → TalksOrHalts made id p to r a c
then_either made id (Ok x) to p q a b c f g = talks_then made id p q (to x) a b c f g
then_either made id (Err halt) to p q a b c f g = talks_then made id p q (halt_phase halt) a b c f g

-- what a `?` hands on
pub handed_on : {A E : Type 0} (r : Result A E) (halt : E) → IsErrAnd r (λ e. e ≡ halt) → r ≡ Err halt
handed_on {E = E} r halt handed = let given = err_from_is_err_and r handed in given.1 ∙ ap (λ (e : E). Err e) given.2

-- ---- one event

pub talks_by : (made : Exchange → Type 0) (id : SessionId) (e : TalkEvent) (p : TalkPhase) (a b : Account)
    → asked_by b.pass ≡ asked_by a.pass ++ (talk_step id p e).asked → SeesOn a.pass b.pass → b.link.heard ≡ with_more a.link.heard (heard_by e)
    → b.link.sent ≡ with_more a.link.sent (map server_spelling (talk_step id p e).sent) → EventCounts e a.link.counts b.link.counts
    → AllByRecursion IsServerFrame (talk_step id p e).sent → AllByRecursion made (talk_step id p e).asked
    → TalksOn made id p (talk_step id p e).phase a b
talks_by made id e p a b asked sees heard sent counts spelled calls = record {
  events = e ∷ [];
  ends = refl;
  asked = asked ∙ ap (λ (l : List Exchange). asked_by a.pass ++ l) (sym (append-nil (talk_step id p e).asked));
  sees = sees;
  heard = heard ∙ ap (λ (l : List Heard). with_more a.link.heard l) (sym (append-nil (heard_by e)));
  sent = sent ∙ ap (λ (l : List ServerFrame). with_more a.link.sent (map server_spelling l)) (sym (append-nil (talk_step id p e).sent));
  counts = count_one e a.link.counts b.link.counts counts;
  spelled = all_both IsServerFrame (talk_step id p e).sent [] spelled tt;
  calls = all_both made (talk_step id p e).asked [] calls tt;
}

-- an event that neither the link nor the session sees
pub talks_inwardly : (made : Exchange → Type 0) (id : SessionId) (e : TalkEvent) (p : TalkPhase) (a : Account) → (talk_step id p e).asked ≡ [] → (talk_step id p e).sent ≡ [] → heard_by e ≡ []
    → EventCounts e a.link.counts a.link.counts → TalksOn made id p (talk_step id p e).phase a a
talks_inwardly made id e p a none nothing quiet counts =
    talks_by made id e p a a
    (sym (append-nil (asked_by a.pass)) ∙ ap (λ (l : List Exchange). asked_by a.pass ++ l) (sym none)) (sees_still a.pass)
    (sym (with_more_none a.link.heard) ∙ ap (λ (l : List Heard). with_more a.link.heard l) (sym quiet))
    (sym (with_more_none a.link.sent) ∙ ap (λ (l : List ServerFrame). with_more a.link.sent (map server_spelling l)) (sym nothing))
    counts (subst (AllByRecursion IsServerFrame) (sym nothing) tt) (subst (AllByRecursion made) (sym none) tt)

-- a call was made
pub talks_asking : (made : Exchange → Type 0) (id : SessionId) (e : TalkEvent) (p : TalkPhase) (exchange : Exchange) (a b : PassState) (link : LinkAccount)
    → exchanges_in b.opening b.seen (caller b) ≡ exchanges_in a.opening a.seen (caller a) ++ exchange ∷ [] → SeesOn a b → (talk_step id p e).asked ≡ exchange ∷ [] → (talk_step id p e).sent ≡ [] → heard_by e ≡ []
    → EventCounts e link.counts link.counts → made exchange
    → TalksOn made id p (talk_step id p e).phase (account a link) (account b link)
talks_asking made id e p exchange a b link grew sees one nothing quiet counts call =
    talks_by made id e p (account a link) (account b link)
    (grew ∙ ap (λ (l : List Exchange). exchanges_in a.opening a.seen (caller a) ++ l) (sym one)) sees
    (sym (with_more_none link.heard) ∙ ap (λ (l : List Heard). with_more link.heard l) (sym quiet))
    (sym (with_more_none link.sent) ∙ ap (λ (l : List ServerFrame). with_more link.sent (map server_spelling l)) (sym nothing))
    counts (subst (AllByRecursion IsServerFrame) (sym nothing) tt) (subst (AllByRecursion made) (sym one) (call, tt))

-- ---- sends

-- what a send tells of its link
pub record Sent (a b : LinkAccount) (frame : ServerFrame) (r : Result (Unit {0}) LinkFault) : Type 0 where
  pub sent : SendsSpelled a.sent b.sent frame r
  pub heard : b.heard ≡ a.heard
  pub later : NoneFalls a.counts b.counts
  pub cause : SendCause a.counts b.counts r

-- behind a send: what comes next, what comes where it fails, and where memory is wanted
abbrev pub phase_behind : Result (Unit {0}) LinkFault → TalkPhase → TalkPhase → TalkPhase → TalkPhase
phase_behind (Ok done) next fails wants = next
phase_behind (Err fault.Failed) next fails wants = fails
phase_behind (Err fault.WantOfMemory) next fails wants = wants

pub sends_on : (made : Exchange → Type 0) (id : SessionId) (r : Result (Unit {0}) LinkFault) (frame : ServerFrame) (rest : List ServerFrame) (next fails wants : TalkPhase) (pass : PassState) (a b : LinkAccount) → Sent a b frame r
    → TalksOn made id (Sending frame rest next fails wants) (phase_behind r (sending_phase rest next fails wants) fails wants) (account pass a) (account pass b)
sends_on made id (Ok done) frame rest next fails wants pass a b s =
    talks_by made id Sends (Sending frame rest next fails wants) (account pass a) (account pass b)
    (sym (append-nil (asked_by pass))) (sees_still pass) (s.heard ∙ sym (with_more_none a.heard)) s.sent.1 s.later (s.sent.0, tt) tt
sends_on made id (Err fault.Failed) frame rest next fails wants pass a b s = fails_on s.sent
  where
    counts : NoneFalls a.counts b.counts × Rose a.counts.faults b.counts.faults
    counts = (s.later, s.cause refl)

    fails_on : ((b.sent ≡ a.sent) ⊎ (IsServerFrame frame × (b.sent ≡ with_more a.sent (server_spelling frame ∷ []))))
        → TalksOn made id (Sending frame rest next fails wants) fails (account pass a) (account pass b)
    fails_on (inl same) =
        talks_by made id FailsToSend (Sending frame rest next fails wants) (account pass a) (account pass b)
        (sym (append-nil (asked_by pass))) (sees_still pass) (s.heard ∙ sym (with_more_none a.heard)) (same ∙ sym (with_more_none a.sent)) counts tt tt
    fails_on (inr went) =
        talks_by made id Loses (Sending frame rest next fails wants) (account pass a) (account pass b)
        (sym (append-nil (asked_by pass))) (sees_still pass) (s.heard ∙ sym (with_more_none a.heard)) went.1 counts (went.0, tt) tt
sends_on made id (Err fault.WantOfMemory) frame rest next fails wants pass a b s =
    talks_by made id Wants (Sending frame rest next fails wants) (account pass a) (account pass b)
    (sym (append-nil (asked_by pass))) (sees_still pass) (s.heard ∙ sym (with_more_none a.heard)) (s.sent ∙ sym (with_more_none a.sent)) s.later tt tt

-- the last frame
pub sends_last : (made : Exchange → Type 0) (id : SessionId) (r : Result (Unit {0}) LinkFault) (frame : ServerFrame) (how : Ended) (wants : TalkPhase) (pass : PassState) (a b : LinkAccount) → Sent a b frame r
    → TalksOn made id (ending_phase (frame ∷ []) how wants) (phase_behind r (Over how) (Over how) wants) (account pass a) (account pass b)
sends_last made id r frame how wants pass a b s = sends_on made id r frame [] (Over how) (Over how) wants pass a b s

-- ---- receives

pub record HeardOnce (a b : LinkAccount) (what : Heard) : Type 0 where
  pub heard : b.heard ≡ with_more a.heard (note_of what)
  pub sent : b.sent ≡ a.sent
  pub later : NoneFalls a.counts b.counts
  pub cause : CountRises a.counts b.counts what

pub hears_in : (made : Exchange → Type 0) (id : SessionId) (cursor : Cursor) (quiets : ℕ) (what : Heard) (pass : PassState) (a b : LinkAccount) → HeardOnce a b what
    → TalksOn made id (Hearing cursor quiets) (hearing cursor quiets what) (account pass a) (account pass b)
hears_in made id cursor quiets what pass a b h =
    talks_by made id (Hears what) (Hearing cursor quiets) (account pass a) (account pass b)
    (sym (append-nil (asked_by pass))) (sees_still pass) h.heard (h.sent ∙ sym (with_more_none a.sent)) (h.later, h.cause) tt tt

pub hears_first : (made : Exchange → Type 0) (id : SessionId) (quiets : ℕ) (what : Heard) (pass : PassState) (a b : LinkAccount) → HeardOnce a b what
    → TalksOn made id (Opening quiets) (opening quiets what) (account pass a) (account pass b)
hears_first made id quiets what pass a b h =
    talks_by made id (Hears what) (Opening quiets) (account pass a) (account pass b)
    (sym (append-nil (asked_by pass))) (sees_still pass) h.heard (h.sent ∙ sym (with_more_none a.sent)) (h.later, h.cause) tt tt

-- a row of Quiets that is not at its end
pub opening_row_is : (quiets : ℕ) → quiets < most_quiets → opening_row quiets ≡ Opening quiets
opening_row_is quiets below = let other : (quiets == most_quiets) ≡ false = ne_eqb quiets most_quiets (λ e. omega (arith, e, below)) in rw other refl

pub opens : (made : Exchange → Type 0) (id : SessionId) (quiets : ℕ) (what : Heard) (pass : PassState) (first : Account) (a b : LinkAccount) → quiets < most_quiets
    → TalksOn made id (Opening 0) (opening_row quiets) first (account pass a) → HeardOnce a b what
    → TalksOn made id (Opening 0) (opening quiets what) first (account pass b)
opens made id quiets what pass first a b below so_far h =
    talks_then made id (Opening 0) (Opening quiets) (opening quiets what) first (account pass a) (account pass b)
    (talks_to made id (Opening 0) (opening_row quiets) (Opening quiets) first (account pass a) (sym (opening_row_is quiets below)) so_far)
    (hears_first made id quiets what pass a b h)

pub opening_over : (made : Exchange → Type 0) (id : SessionId) (quiets : ℕ) (first b : Account) → quiets ≡ most_quiets → TalksOn made id (Opening 0) (opening_row quiets) first b → TalksOn made id (Opening 0) (opening_row most_quiets) first b
opening_over made id quiets first b is f = subst (λ (n : ℕ). TalksOn made id (Opening 0) (opening_row n) first b) is f

pub hearing_row_on : (cursor : Cursor) (quiets : ℕ) → quiets ≢ most_quiets → hearing_row cursor quiets ≡ Ticking cursor quiets
hearing_row_on cursor quiets ne = rw (ne_eqb quiets most_quiets ne) refl

pub hearing_row_over : (cursor : Cursor) (quiets : ℕ) → quiets ≡ most_quiets → hearing_row cursor quiets ≡ Leaving cursor (ended.Idle most_quiets)
hearing_row_over cursor quiets is = rw (eq-eqb quiets most_quiets is) refl

-- ---- whole talks

-- what others do behind it changes no talk
pub talk_grows : (gives : ℕ → Type 0) (id : SessionId) (opening : PlainSession) (history more : List Item) (c : ℕ) (heard : List Heard) (sent : List (List ℕ)) (how : Ended) → calls_of (c ∷ []) more ≡ [] → Talk gives id opening history c heard sent how
    → Talk gives id opening (history ++ more) c heard sent how
talk_grows gives id opening history more c heard sent how none talk =
    let same : exchanges_in opening (history ++ more) c ≡ exchanges_in opening history c = exchanges_same opening history more c none in
    record {
      events = talk.events;
      ends = talk.ends;
      asked = same ∙ talk.asked;
      said = talk.said;
      told = talk.told;
      spelled = talk.spelled;
      timely = subst (AllByRecursion (IsAskedInTime gives)) (sym same) talk.timely;
    }

-- ---- what functions tell

pub spelled_sends : (r : Result (Unit {0}) LinkFault) (before now : Option (List (List ℕ))) (bytes : List ℕ) (frame : ServerFrame) → bytes ≡ server_spelling frame → IsServerFrame frame → LinkSends before now bytes r
    → SendsSpelled before now frame r
spelled_sends (Ok done) before now bytes frame is spelled s = (spelled, s ∙ ap (λ (b : List ℕ). with_more before (b ∷ [])) is)
spelled_sends (Err fault.Failed) before now bytes frame is spelled s = elim s [
  | inl same ↦ inl same
  | inr went ↦ inr (spelled, went ∙ ap (λ (b : List ℕ). with_more before (b ∷ [])) is)
]
spelled_sends (Err fault.WantOfMemory) before now bytes frame is spelled s = s

-- a send that failed for the fault that was matched
pub sent_as : (a b : LinkAccount) (frame : ServerFrame) (found fault : LinkFault) → found ≡ fault → Sent a b frame (Err found) → Sent a b frame (Err fault)
sent_as a b frame found fault is s = subst (λ (f : LinkFault). Sent a b frame (Err f)) is s

pub frame_at : (frames : List ServerFrame) (i : ℕ) (frame : ServerFrame) → i < length frames → frame ≡ get_or frames i frame → drop i frames ≡ frame ∷ drop (i + 1) frames
frame_at frames i frame within is = drop_more frames i frame within ∙ ap (λ (f : ServerFrame). f ∷ drop (i + 1) frames) (sym is)

pub drop_whole : (frames : List ServerFrame) (i : ℕ) → length frames ≤ i → drop i frames ≡ []
drop_whole [] zero over = refl
drop_whole [] (suc i) over = refl
drop_whole (x ∷ xs) zero over = absurd (omega arith)
drop_whole (x ∷ xs) (suc i) over = drop_whole xs i (omega arith)

-- a batch of no frames leaves the cursor
no_more : (cursor : Cursor) (entries : List Entry) (newer : Option ℕ) → entry_frames entries ++ tick_frames newer ≡ []
    → record cursor { after = cursor.after + length entries; last_tick = unwrap_or newer cursor.last_tick } ≡ cursor
no_more cursor [] None is = let same : cursor.after + 0 ≡ cursor.after = omega arith in ap (λ (n : ℕ). record cursor { after = n }) same
no_more cursor [] (Some tick) is = absurd (cc (is))
no_more cursor (entry ∷ entries) newer is = absurd (cc (is))

none_next : (cursor : Cursor) (r : Reply) → next_frames cursor r ≡ [] → next_cursor cursor r ≡ cursor
none_next cursor (reply.Batch entries tick) is = no_more cursor entries (newer_tick cursor.last_tick tick) is
none_next cursor (reply.Joined seq time last from base) is = refl
none_next cursor (reply.Stamped seq time) is = refl
none_next cursor (reply.Again seq time) is = refl
none_next cursor (reply.Ticked time) is = refl
none_next cursor (reply.Left seq time) is = refl
none_next cursor reply.Kept is = refl
none_next cursor (reply.Refused refusal) is = refl

frames_want : (made : Exchange → Type 0) (id : SessionId) (cursor behind : Cursor) (frames : List ServerFrame) (quiets : ℕ) (a : Account) → (frames ≡ [] → behind ≡ cursor)
    → TalksOn made id (telling_phase cursor frames (Hearing behind quiets)) (Leaving cursor ended.WantOfMemory) a a
frames_want made id cursor behind [] quiets a same =
    talks_to made id (Hearing behind quiets) (Leaving behind ended.WantOfMemory) (Leaving cursor ended.WantOfMemory) a a
    (ap (λ (c : Cursor). Leaving c ended.WantOfMemory) (sym (same refl)))
    (talks_inwardly made id (Hears heard.WantOfMemory) (Hearing behind quiets) a refl refl refl (none_falls a.link.counts, tt))
frames_want made id cursor behind (frame ∷ frames) quiets a same =
    talks_inwardly made id Wants (Sending frame frames (Hearing behind quiets) (Leaving cursor ended.LinkFault) (Leaving cursor ended.WantOfMemory)) a refl refl refl (none_falls a.link.counts)

-- no memory was found for the frames of a batch
pub batch_wants : (made : Exchange → Type 0) (id : SessionId) (cursor : Cursor) (r : Reply) (quiets : ℕ) (a : Account) → TalksOn made id (pulled_phase cursor quiets r) (Leaving cursor ended.WantOfMemory) a a
batch_wants made id cursor r quiets a = frames_want made id cursor (next_cursor cursor r) (next_frames cursor r) quiets a (none_next cursor r)

-- the frames of a batch were sent
pub hands_out : (made : Exchange → Type 0) (id : SessionId) (cursor new : Cursor) (given : Reply) (quiets : ℕ) (frames : List ServerFrame) (r : Result (Unit {0}) Halt) (a b : Account)
    → frames ≡ next_frames cursor given → new ≡ next_cursor cursor given → ((next : TalkPhase) → TalksOrHalts made id (telling_phase cursor frames next) (λ _. next) r a b)
    → TalksOrHalts made id (pulled_phase cursor quiets given) (λ _. Hearing new quiets) r a b
hands_out made id cursor new given quiets frames r a b frames_is new_is told =
    let behind = Hearing (next_cursor cursor given) quiets in
    subst (λ (c : Cursor). TalksOrHalts made id (pulled_phase cursor quiets given) (λ _. Hearing c quiets) r a b) (sym new_is)
    (subst (λ (fs : List ServerFrame). TalksOrHalts made id (telling_phase cursor fs behind) (λ _. behind) r a b) frames_is (told behind))

pub asks_leave : (made : Exchange → Type 0) (id : SessionId) (r : Result Reply CallFault) (cursor : Cursor) (now : ℕ) (how : Ended) (a b : PassState) (link : LinkAccount) → made (exchange_of (Leave cursor.view cursor.joined now) r)
    → exchanges_in b.opening b.seen (caller b) ≡ exchanges_in a.opening a.seen (caller a) ++ exchange_of (Leave cursor.view cursor.joined now) r ∷ [] → SeesOn a b → TalksOn made id (Leaving cursor how) (Over how) (account a link) (account b link)
asks_leave made id (Ok given) cursor now how a b link call grew sees =
    talks_asking made id (MakesAt now given) (Leaving cursor how) (Answered (Leave cursor.view cursor.joined now) given) a b link grew sees refl refl refl (none_falls link.counts) call
asks_leave made id (Err why) cursor now how a b link call grew sees = talks_asking made id (Misses why) (Leaving cursor how) (Unanswered why) a b link grew sees refl refl refl (none_falls link.counts) call

-- a call that is due is made
pub asks_join : {T : Type 0} (made : Exchange → Type 0) (id : SessionId) (request : Request) (given : Reply) (opened : Option Cursor) (frame : ServerFrame) (r : Result T Halt) (to : T → TalkPhase) (a b : PassState) (link new : LinkAccount)
    → exchanges_in b.opening b.seen (caller b) ≡ exchanges_in a.opening a.seen (caller a) ++ Answered request given ∷ [] → SeesOn a b → made (Answered request given) → opened ≡ first_cursor (joined_view request) given → Some frame ≡ join_answer given
    → TalksOrHalts made id (greeted_phase opened (Some frame)) to r (account b link) (account b new) → TalksOrHalts made id (Joining request) to r (account a link) (account b new)
asks_join made id request given opened frame r to a b link new grew sees call cursor_is frame_is rest =
    then_either made id r to (Joining request) (join_phase request given) (account a link) (account b link) (account b new)
    (talks_asking made id (MakesRequest given) (Joining request) (Answered request given) a b link grew sees refl refl refl (none_falls link.counts) call)
    (subst (λ (o : Option ServerFrame). TalksOrHalts made id (greeted_phase (first_cursor (joined_view request) given) o) to r (account b link) (account b new)) frame_is
    (subst (λ (o : Option Cursor). TalksOrHalts made id (greeted_phase o (Some frame)) to r (account b link) (account b new)) cursor_is rest))

pub asks_frame : {T : Type 0} (made : Exchange → Type 0) (id : SessionId) (cursor : Cursor) (request : Request) (given : Reply) (end : Option Ended) (frame : Option ServerFrame) (r : Result T Halt) (to : T → TalkPhase) (a b : PassState) (link new : LinkAccount)
    → exchanges_in b.opening b.seen (caller b) ≡ exchanges_in a.opening a.seen (caller a) ++ Answered request given ∷ [] → SeesOn a b → made (Answered request given) → end ≡ end_in given → frame ≡ answer_frame request given
    → TalksOrHalts made id (answered_by cursor end (answer_frames frame)) to r (account b link) (account b new) → TalksOrHalts made id (Asking cursor request) to r (account a link) (account b new)
asks_frame made id cursor request given end frame r to a b link new grew sees call end_is frame_is rest =
    then_either made id r to (Asking cursor request) (reply_phase cursor request given) (account a link) (account b link) (account b new)
    (talks_asking made id (MakesRequest given) (Asking cursor request) (Answered request given) a b link grew sees refl refl refl (none_falls link.counts) call)
    (subst (λ (o : Option ServerFrame). TalksOrHalts made id (answered_by cursor (end_in given) (answer_frames o)) to r (account b link) (account b new)) frame_is
    (subst (λ (o : Option Ended). TalksOrHalts made id (answered_by cursor o (answer_frames frame)) to r (account b link) (account b new)) end_is rest))

pub asks_pull : {T : Type 0} (made : Exchange → Type 0) (id : SessionId) (cursor : Cursor) (quiets : ℕ) (given : Reply) (r : Result T Halt) (to : T → TalkPhase) (a b : PassState) (link new : LinkAccount)
    → exchanges_in b.opening b.seen (caller b) ≡ exchanges_in a.opening a.seen (caller a) ++ Answered (Pull cursor.after most_pulled) given ∷ [] → SeesOn a b → made (Answered (Pull cursor.after most_pulled) given)
    → TalksOrHalts made id (pulled_phase cursor quiets given) to r (account b link) (account b new) → TalksOrHalts made id (Pulling cursor quiets) to r (account a link) (account b new)
asks_pull made id cursor quiets given r to a b link new grew sees call rest =
    then_either made id r to (Pulling cursor quiets) (pulled_phase cursor quiets given) (account a link) (account b link) (account b new)
    (talks_asking made id (MakesRequest given) (Pulling cursor quiets) (Answered (Pull cursor.after most_pulled) given) a b link grew sees refl refl refl (none_falls link.counts) call) rest

pub asks_tick : (made : Exchange → Type 0) (id : SessionId) (cursor : Cursor) (quiets now : ℕ) (given : Reply) (a b : PassState) (link : LinkAccount) → made (Answered (Tick now) given)
    → exchanges_in b.opening b.seen (caller b) ≡ exchanges_in a.opening a.seen (caller a) ++ Answered (Tick now) given ∷ [] → SeesOn a b → TalksOn made id (Ticking cursor quiets) (Pulling cursor quiets) (account a link) (account b link)
asks_tick made id cursor quiets now given a b link call grew sees =
    talks_asking made id (MakesAt now given) (Ticking cursor quiets) (Answered (Tick now) given) a b link grew sees refl refl refl (none_falls link.counts) call

-- a call that is due has no answer
pub asks_nothing : (made : Exchange → Type 0) (id : SessionId) (why : CallFault) (p q : TalkPhase) (a b : PassState) (link : LinkAccount) → exchanges_in b.opening b.seen (caller b) ≡ exchanges_in a.opening a.seen (caller a) ++ Unanswered why ∷ [] → SeesOn a b
    → made (Unanswered why) → (talk_step id p (Misses why)).asked ≡ Unanswered why ∷ [] → (talk_step id p (Misses why)).sent ≡ [] → (talk_step id p (Misses why)).phase ≡ q → TalksOn made id p q (account a link) (account b link)
asks_nothing made id why p q a b link grew sees call one nothing is =
    talks_to made id p (talk_step id p (Misses why)).phase q (account a link) (account b link) (sym is) (talks_asking made id (Misses why) p (Unanswered why) a b link grew sees one nothing refl (none_falls link.counts) call)

-- a call at a time that the clock may give
pub made_so : (gives : ℕ → Type 0) (shut : Type 0) (cursor : Cursor) (now : ℕ) (r : Result Reply CallFault) → gives now → IsUnkeptBy shut (exchange_of (Leave cursor.view cursor.joined now) r) → IsMadeSo gives shut (exchange_of (Leave cursor.view cursor.joined now) r)
made_so gives shut cursor now (Ok given) timely unkept = (timely, tt)
made_so gives shut cursor now (Err why) timely unkept = (tt, unkept)

-- bytes that were found to be no frame have no reading
pub has_no_reading : (found : FrameFault) (bytes given : List ℕ) → found ≡ unread.BadFrame → given ≡ bytes → ReadsFrame (Err found) (whole client_at given) → whole client_at bytes ≡ None
has_no_reading found bytes given is same reads = ap (λ (b : List ℕ). whole client_at b) (sym same) ∙ subst (λ (f : FrameFault). ReadsFrame (Err f) (whole client_at given)) is reads

-- bytes that were heard were read
pub reads_on : (made : Exchange → Type 0) (id : SessionId) (now : ℕ) (p q r : TalkPhase) (a b : Account) → (talk_step id p (Reads now)).asked ≡ [] → (talk_step id p (Reads now)).sent ≡ []
    → (talk_step id p (Reads now)).phase ≡ q → TalksOn made id q r a b → TalksOn made id p r a b
reads_on made id now p q r a b none nothing is rest =
    talks_then made id p q r a a b (talks_to made id p (talk_step id p (Reads now)).phase q a a (sym is) (talks_inwardly made id (Reads now) p a none nothing refl (none_falls a.link.counts))) rest

pub reads_either : {T : Type 0} (made : Exchange → Type 0) (id : SessionId) (now : ℕ) (p q : TalkPhase) (r : Result T Halt) (to : T → TalkPhase) (a b : Account) → (talk_step id p (Reads now)).asked ≡ [] → (talk_step id p (Reads now)).sent ≡ []
    → (talk_step id p (Reads now)).phase ≡ q → TalksOrHalts made id q to r a b → TalksOrHalts made id p to r a b
reads_either made id now p q r to a b none nothing is rest =
    then_either made id r to p q a a b (talks_to made id p (talk_step id p (Reads now)).phase q a a (sym is) (talks_inwardly made id (Reads now) p a none nothing refl (none_falls a.link.counts))) rest

-- the time of a request is that of the frame
pub first_timely : (gives : ℕ → Type 0) (frame : ClientFrame) (id : SessionId) (now : ℕ) (request : Request) (given : Reply) → gives now → first_request frame id now ≡ Ok request → IsAskedInTime gives (Answered request given)
first_timely gives (client.Join session view want) id now request given timely is = entered (bytes_eq session.0 id.0) is
  where
    entered : (same : Bool) → (if same then Ok (Join view now want) else Err OtherSession) ≡ Ok request → IsAskedInTime gives (Answered request given)
    entered true e = let it : Join view now want ≡ request = cc (e) in subst (λ (q : Request). IsAskedInTime gives (Answered q given)) it timely
    entered false e = absurd (cc (e))
first_timely gives (client.Send number payload) id now request given timely is = absurd (cc (is))
first_timely gives (client.Snap time bytes) id now request given timely is = absurd (cc (is))
first_timely gives client.Leave id now request given timely is = absurd (cc (is))
first_timely gives client.Alive id now request given timely is = absurd (cc (is))

pub act_timely : (gives : ℕ → Type 0) (cursor : Cursor) (frame : ClientFrame) (now : ℕ) (request : Request) (given : Reply) → gives now → act_on cursor frame now ≡ Call request → IsAskedInTime gives (Answered request given)
act_timely gives cursor (client.Join session view want) now request given timely is = absurd (cc (is))
act_timely gives cursor (client.Send number payload) now request given timely is =
    let it : Send cursor.view cursor.joined number payload now ≡ request = cc (is) in subst (λ (q : Request). IsAskedInTime gives (Answered q given)) it timely
act_timely gives cursor (client.Snap time bytes) now request given timely is =
    let it : Offer cursor.view cursor.joined time bytes ≡ request = cc (is) in subst (λ (q : Request). IsAskedInTime gives (Answered q given)) it tt
act_timely gives cursor client.Leave now request given timely is =
    let it : Leave cursor.view cursor.joined now ≡ request = cc (is) in subst (λ (q : Request). IsAskedInTime gives (Answered q given)) it timely
act_timely gives cursor client.Alive now request given timely is = absurd (cc (is))

pub kept_on : (p q r : PassState) → q ≡ record p { seen = q.seen } → r ≡ record q { seen = r.seen } → r ≡ record p { seen = r.seen }
kept_on p q r e f = f ∙ ap (λ (s : PassState). record s { seen = r.seen }) e
